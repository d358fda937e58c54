-- Laws of rows: what a loop over arrays needs.
--
-- rows: rows_snoc
-- device_rows: device_rows_step, length_device_rows
-- at: at_zeros
use mathlib.Core.Path.{◌≡◌, refl, ap}
use mathlib.Core.List.{List, [], ◌∷◌, ◌++◌}
use Prim.Native.Nat.{ℕ, zero, suc, ◌+◌, ◌-◌, ◌<◌}
use native.Mathlib.Omega.{arith}
use native.Mathlib.Nat.{suc-add, add-zero}
use native.Mathlib.Numerals.{add-one}
use lib.ListN.{length, replicate}
use Rattle.slicing.specs.Devices.{device}
use Rattle.slicing.specs.Runs.{◌of◌}
use Rattle.slicing_core.specs.Rows.{at, rows, device_rows}

-- ---- a loop from i up to q: the rows that are left

pub device_rows_step : (d c : List ℕ) (i q : ℕ) → i < q
    → device_rows d c i (q - i) ≡ device (at d i) (at c i) ∷ device_rows d c (i + 1) (q - (i + 1))
device_rows_step d c i q h =
    let e : q - i ≡ suc (q - (i + 1)) = omega arith in
    rw (e, add-one i)

-- ---- one row more at the end

pub rows_snoc : (s l : List ℕ) (i n : ℕ) → rows s l i (n + 1) ≡ rows s l i n ++ ((at s (i + n) of at l (i + n)) ∷ [])
rows_snoc s l i zero = rw (add-zero i)
rows_snoc s l i (suc n) =
    let e : i + suc n ≡ suc i + n = omega arith in
    rw (suc-add n 1, e) (ap (λ r. (at s i of at l i) ∷ r) (rows_snoc s l (suc i) n))

pub length_device_rows : (d c : List ℕ) (i n : ℕ) → length (device_rows d c i n) ≡ n
length_device_rows d c i zero = refl
length_device_rows d c i (suc n) = ap suc (length_device_rows d c (suc i) n)

pub at_zeros : (n i : ℕ) → at (replicate n 0) i ≡ 0
at_zeros zero i = refl
at_zeros (suc n) zero = refl
at_zeros (suc n) (suc i) = at_zeros n i
