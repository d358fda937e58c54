-- `image_bytes::rows::put_columns` meets its contract. The loop's invariant: the first i rows are written, and the rest is as it was.
use mathlib.Core.Path.{◌≡◌}
use mathlib.Core.List.{◌++◌}
use Prim.Native.Nat.{◌*◌}
use lib.ListN.{length, drop}
use Rattle.image_bytes.specs.RowBytes.{rows_bytes}
use Rattle.image_bytes.proofs.rows.put_columns.Given as goal

abbrev pub invariant-loop-i : goal.invariant-loop-i
invariant-loop-i l =
    (length l.rows ≡ length l.initial.rows) × (l.rows ≡ rows_bytes l.row l.shorts l.longs 0 l.i ++ drop (6 * l.i) l.initial.rows)
