-- `sha1_blocks::steps::rounds` meets its contract: four times twenty rounds are the eighty.
use Rattle.sha1_blocks.proofs.Rounds.{rounds_more}
use Rattle.sha1_blocks.proofs.steps.rounds.Goals as goal

pub returns : goal.returns
returns c =
    let W = c.args.w.now in
    let start = c.args.start in
    let forty = rounds_more W start 20 20 c.twenty-v20.ensures c.twenty-v40.ensures in
    rounds_more W start 60 20 (rounds_more W start 40 20 forty c.twenty-v60.ensures) c.twenty.ensures
