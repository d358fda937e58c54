-- `sha1_blocks::steps::round` meets its contract, from what the rotations, f and k ensure.
use Rattle.sha1_blocks.specs.Fips180.{round}
use Rattle.sha1_blocks.proofs.steps.round.Goals as goal

pub returns : goal.returns
unfolding round
returns c =
    cc
