-- Laws of the capacities of rows of devices within their limits.
--
-- capacity_most, sum_most; capacities_taken (they are the sum of the array's first numbers)
use mathlib.Core.Path.{◌≡◌, refl, ap, ◌∙◌}
use mathlib.Core.List.{List}
use Prim.Native.Nat.{ℕ, zero, suc, ◌+◌, ◌≤◌, ◌<◌}
use native.Mathlib.Omega.{arith}
use lib.ListN.{length, take, drop}
use lib.Seq.{drop-cons}
use Rattle.std.specs.List.{sum}
use Rattle.std.proofs.lemmas.List.Sums.{sum_by-cons}
use Rattle.slicing.specs.Devices.{capacities, Rising}
use Rattle.slicing.specs.Limits.{max_capacity}
use Rattle.slicing.proofs.Limits.{sum_size}
use Rattle.slicing_core.specs.Rows.{at, device_rows}
use Rattle.slicing_core.proofs.DeviceRows.{within_rising}
use Rattle.slicing_core.proofs.Rows.{length_device_rows}

module _ (ids caps : List ℕ) (n : ℕ) (r : Rising 0 (device_rows ids caps 0 n)) where
  pub capacity_most : (i : ℕ) → i < n → at caps i ≤ max_capacity
  capacity_most i l = (within_rising ids caps n r i l).most

  pub sum_most : n ≤ 256 → capacities (device_rows ids caps 0 n) ≤ 4096000000
  sum_most l = sum_size (device_rows ids caps 0 n) r (omega (arith, length_device_rows ids caps 0 n))

taken_from : (ids caps : List ℕ) (i n : ℕ) → i + n ≤ length caps → sum (take n (drop i caps)) ≡ capacities (device_rows ids caps i n)
taken_from ids caps i zero h = refl
taken_from ids caps i (suc n) h =
    rw (drop-cons caps i 0 (omega arith))
    (sum_by-cons (λ x. x) (at caps i) (take n (drop (suc i) caps)) ∙ ap (λ s. at caps i + s) (taken_from ids caps (suc i) n (omega arith)))

pub capacities_taken : (ids caps : List ℕ) (n : ℕ) → n ≤ length caps → sum (take n caps) ≡ capacities (device_rows ids caps 0 n)
capacities_taken ids caps n h = taken_from ids caps 0 n (omega arith)
