-- What rows of devices are due, rounded down: a loop over the rows, and all of them within the range.
--
-- floors: floors_step (the rows left), floors_most, floor_one (one of them)
use mathlib.Core.Path.{◌≡◌, ap}
use mathlib.Core.List.{List}
use mathlib.Core.Logic.{inl, inr}
use Prim.Native.Nat.{ℕ, zero, suc, ◌+◌, ◌*◌, ◌-◌, ◌/◌, ◌≤◌, ◌<◌}
use native.Mathlib.Nat.{eq-or-lt_of_le}
use native.Mathlib.Omega.{arith}
use Rattle.slicing.specs.Devices.{capacities}
use Rattle.slicing.specs.Dues.{floors}
use Rattle.slicing.proofs.Dues.{floors_le}
use Rattle.slicing_core.specs.Rows.{at, device_rows}
use Rattle.slicing_core.proofs.Rows.{device_rows_step}

module _ (R C : ℕ) (ids caps : List ℕ) where
  pub floors_step : (i n : ℕ) → i < n
      → floors R C (device_rows ids caps i (n - i)) ≡ R * at caps i / C + floors R C (device_rows ids caps (i + 1) (n - (i + 1)))
  floors_step i n l = ap (floors R C) (device_rows_step ids caps i n l)

  pub floors_most : (n : ℕ) → C ≡ capacities (device_rows ids caps 0 n) → 1 ≤ C → floors R C (device_rows ids caps 0 n) ≤ R
  floors_most n e h = rw e (floors_le R (device_rows ids caps 0 n) (omega arith))

  pub floor_one : (i m k : ℕ) → i ≤ k → k < i + m → R * at caps k / C ≤ floors R C (device_rows ids caps i m)
  floor_one i zero k a b = absurd (omega arith)
  floor_one i (suc m) k a b =
      elim (eq-or-lt_of_le a) [ inl e ↦ rw e (omega arith) | inr s ↦ omega (arith, floor_one (suc i) m k s (omega arith)) ]
