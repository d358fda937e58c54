-- `packed_runs::put` meets its contract: a run that is not empty is `put_more`.
use Rattle.packed_runs.proofs.Pushing.{put_more}
use Rattle.packed_runs.proofs.put.Goals as goal

pub returns : goal.returns
returns c =
    put_more _ _ _ _ c.requires.0 c.if-size-eq0.false c.requires.1 c.requires.3
