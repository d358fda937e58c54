-- `image_bytes::rows::read_columns` meets its contract. The loop's invariant: both arrays hold the numbers of the first i rows, and are as they were behind.
use native.Mathlib.Omega.{arith}
use Rattle.image_bytes.specs.RowBytes.{short_place, long_place}
use Rattle.image_bytes.proofs.ReadColumns.{filled_more}
use Rattle.image_bytes.proofs.rows.read_columns.Goals as goal

pub loop-i-preserved : goal.loop-i-preserved
loop-i-preserved c =
    let pass = c.loop-i in
    let a = c.args in (
      filled_more 2 (short_place a.row) a.rows.now a.shorts.now pass.shorts pass.i _ (omega arith) pass.invariant.0 (rw c.places-short.ensures.at.0 at c.number.ensures.0),
      filled_more 4 (long_place a.row) a.rows.now a.longs.now pass.longs pass.i _ (omega arith) pass.invariant.1 (rw c.places-short.ensures.at.1 at c.number-in-loop-i.ensures.0),
    )
