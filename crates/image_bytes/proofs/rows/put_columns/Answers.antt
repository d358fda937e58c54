-- `image_bytes::rows::put_columns` meets its contract. The loop's invariant: the first i rows are written, and the rest is as it was.
use mathlib.Core.Path.{refl}
use native.Mathlib.Omega.{arith}
use Rattle.image_bytes.proofs.RowFronts.{rows_bytes_none, rows_bytes_put}
use Rattle.image_bytes.proofs.rows.put_columns.Goals as goal

pub loop-i-init : goal.loop-i-init
loop-i-init c =
    let a = c.args in
    (refl, rows_bytes_none a.row a.shorts.now a.longs.now a.rows.now)

pub loop-i-preserved : goal.loop-i-preserved
loop-i-preserved c =
    let a = c.args in (
      omega (arith, c.loop-i.invariant.0),
      rows_bytes_put a.row a.shorts.now a.longs.now a.rows.now _ _ c.loop-i.i c.loop-i.invariant.1 c.put_row.ensures,
    )
