-- `largest_remainder::shares` meets its contract. The loop's invariant: the rows passed have their shares, and the others their floors.
use mathlib.Core.Path.{◌≡◌}
use Prim.Native.Nat.{ℕ, ◌≤◌, ◌<◌}
use lib.ListN.{length}
use Rattle.slicing.specs.Devices.{device}
use Rattle.slicing.specs.LargestRemainder.{share}
use Rattle.slicing_core.specs.Rows.{at, device_rows}
use Rattle.largest_remainder.proofs.shares.Given as goal

abbrev pub invariant-loop-i : goal.invariant-loop-i
invariant-loop-i l =
    (length l.points ≡ 256)
    × ((k : ℕ) → k < l.i → at l.points k ≡ share l.range (device_rows l.ids l.capacities 0 l.n) (device (at l.ids k) (at l.capacities k)))
    × ((k : ℕ) → l.i ≤ k → at l.points k ≡ at l.initial.points k)
