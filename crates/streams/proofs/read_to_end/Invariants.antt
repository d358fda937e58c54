-- `streams::read_to_end` counts bytes of the buffer. The loop's invariant: the buffer keeps its length, and `done` is at most that. The measure
-- is the room that is left.
use Rattle.std.proofs.Common.{◌≡◌, ◌≤◌, ◌-◌, length}
use Rattle.streams.proofs.read_to_end.Given as goal

abbrev pub invariant-loop-done : goal.invariant-loop-done
invariant-loop-done g l =
    (length l.buf ≡ length l.initial.buf) × (l.done ≤ length l.initial.buf)

abbrev pub decreases-loop-done : goal.decreases-loop-done
decreases-loop-done g l =
    length l.initial.buf - l.done
