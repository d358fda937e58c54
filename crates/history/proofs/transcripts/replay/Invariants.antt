-- `history::transcripts::replay` meets its contract. The loop's invariant: what is printed and what is still to be printed of the text from
-- place `from` on are the whole (`Replaying`), and the pool is an opened one.
use Prim.Native.Nat.{◌-◌}
use lib.ListN.{length}
use Rattle.history_steps.specs.Advances.{reading_in}
use Rattle.history_steps.proofs.OpenReadings.{Ready}
use Rattle.history.proofs.Replaying.{Replaying}
use Rattle.history.proofs.transcripts.replay.Given as goal

abbrev pub invariant-loop-from : goal.invariant-loop-from
invariant-loop-from l =
    Replaying l.text l.initial.out (reading_in l.begun l.pool l.table) l.line l.from l.place l.out × Ready l.pool l.table l.work l.next

abbrev pub decreases-loop-from : goal.decreases-loop-from
decreases-loop-from l =
    length l.text - l.from
