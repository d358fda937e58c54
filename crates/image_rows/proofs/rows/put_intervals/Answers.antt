-- `image_rows::rows::put_intervals` meets its contract. The loop's invariant: the first i rows are written, the rest is as it was, and
-- the next interval starts behind them.
use mathlib.Core.Path.{refl, ap, ◌∙◌}
use Prim.Native.Nat.{◌+◌, ◌/◌}
use native.Mathlib.Omega.{arith}
use Rattle.slicing_core.specs.Rows.{at}
use Rattle.opened.proofs.OpenPools.{open_few, open_intervals, open_points}
use Rattle.pools.proofs.ClosedPools.{total_runs_more, total_runs_le}
use Rattle.image_rows.proofs.ThreeNumbers.{intervals_put}
use Rattle.image_rows.proofs.rows.put_intervals.Goals as goal

pub loop-i-init : goal.loop-i-init
loop-i-init c =
    (refl, refl, open_intervals c.requires.0, refl)

pub loop-i-preserved : goal.loop-i-preserved
loop-i-preserved c =
    let o = c.args.opened in (
      omega (arith, c.loop-i.invariant.0),
      ap (λ n. n + at c.args.table.now c.loop-i.i / 65536) c.loop-i.invariant.1 ∙ total_runs_more c.args.table.now c.loop-i.i,
      c.loop-i.invariant.2,
      intervals_put (at o.ids) c.args.table.now c.args.rows.now _ _ c.loop-i.i c.loop-i.start c.loop-i.invariant.1
          c.loop-i.invariant.3 c.put_row.ensures,
    )

pub bounds-opened-row : goal.bounds-opened-row
bounds-opened-row c =
    omega (arith, c.requires.0.labels c.loop-i.i (omega arith), open_few c.requires.0)

pub overflow_add-start : goal.overflow_add-start
overflow_add-start c =
    omega (arith, total_runs_le c.args.table.now c.loop-i.i c.args.opened.intervals (omega arith), open_points c.requires.0)
