-- `shares::dues::floors` meets its contract. The loop's invariant: the floors of the rows passed are stored, and what is left
-- and all floors are the range and the floors of the rows left.
use mathlib.Core.Path.{◌≡◌}
use Prim.Native.Nat.{ℕ, ◌+◌, ◌*◌, ◌-◌, ◌/◌, ◌<◌}
use lib.ListN.{length}
use Rattle.slicing.specs.Dues.{floors as floorsOf}
use Rattle.slicing_core.specs.Rows.{at, device_rows}
use Rattle.shares.proofs.dues.floors.Given as goal

abbrev pub invariant-loop-i : goal.invariant-loop-i
invariant-loop-i l =
    (length l.into ≡ 256) × ((k : ℕ) → k < l.i → at l.into k ≡ l.range * at l.capacities k / l.c)
    × (l.left + floorsOf l.range l.c (device_rows l.ids l.capacities 0 l.n) ≡ l.range + floorsOf l.range l.c (device_rows l.ids l.capacities l.i (l.n - l.i)))
