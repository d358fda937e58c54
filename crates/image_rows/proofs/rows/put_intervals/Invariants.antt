-- `image_rows::rows::put_intervals` meets its contract. The loop's invariant: the first i rows are written, the rest is as it was, and
-- the next interval starts behind them.
use mathlib.Core.Path.{◌≡◌}
use mathlib.Core.List.{◌++◌}
use Prim.Native.Nat.{◌*◌, ◌≤◌}
use lib.ListN.{length, drop}
use Rattle.slicing.specs.Runs.{total, relabel, intervals}
use Rattle.slicing_core.specs.Rows.{at}
use Rattle.packed_runs.specs.Words.{runs}
use Rattle.image_rows.specs.Promises.{intervals_as}
use Rattle.image_rows.proofs.rows.put_intervals.Given as goal

abbrev pub invariant-loop-i : goal.invariant-loop-i
invariant-loop-i l =
    (length l.rows ≡ length l.initial.rows) × (l.start ≡ total (runs l.table 0 l.i))
    × (l.opened.intervals ≤ 4096)
    × (l.rows ≡ intervals_as (intervals 0 (relabel (at l.opened.ids) (runs l.table 0 l.i))) ++ drop (3 * l.i) l.initial.rows)
