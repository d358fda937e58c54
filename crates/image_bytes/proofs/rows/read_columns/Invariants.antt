-- `image_bytes::rows::read_columns` meets its contract. The loop's invariant: both arrays hold the numbers of the first i rows, and are as they were behind.
use Rattle.image_bytes.specs.RowBytes.{short_place, long_place}
use Rattle.image_bytes.proofs.ReadColumns.{Filled}
use Rattle.image_bytes.proofs.rows.read_columns.Given as goal

abbrev pub invariant-loop-i : goal.invariant-loop-i
invariant-loop-i l =
    Filled 2 (short_place l.fn.row) l.rows l.initial.shorts l.shorts l.i × Filled 4 (long_place l.fn.row) l.rows l.initial.longs l.longs l.i
