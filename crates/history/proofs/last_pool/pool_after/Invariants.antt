-- `history::last_pool::pool_after` meets its contract. The loop's invariant: the reading and the lines from place `from` on leave what the text
-- leaves (`Leaving`), and the pool is an opened one.
use Prim.Native.Nat.{◌-◌}
use lib.ListN.{length}
use Rattle.history_steps.specs.Advances.{reading_in}
use Rattle.history_steps.proofs.OpenReadings.{Ready}
use Rattle.history.proofs.PoolsLeft.{Leaving}
use Rattle.history.proofs.last_pool.pool_after.Given as goal

abbrev pub invariant-loop-from : goal.invariant-loop-from
invariant-loop-from l =
    Leaving l.text (reading_in l.begun l.pool l.table) l.from × Ready l.pool l.table l.work l.next

abbrev pub decreases-loop-from : goal.decreases-loop-from
decreases-loop-from l =
    length l.text - l.from
