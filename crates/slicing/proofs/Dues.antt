-- What the devices are due together: the floors of all, and the points left over.
--
--   rems R C ds        what the roundings leave together
-- Laws: rems_floors, floors_le (the floors are at most R), leftover_less (fewer points are left over than there are devices).
use mathlib.Core.Path.{◌≡◌}
use mathlib.Core.List.{List, [], ◌∷◌}
use Prim.Native.Nat.{ℕ, ◌+◌, ◌*◌, ◌≤◌, ◌<◌}
use native.Mathlib.Omega.{arith}
use native.Mathlib.Nat.{div-add-mod, mod-lt, le_of_mul-le-mul_left, lt_of_mul-lt-mul_left}
use lib.ListN.{length}
use Rattle.slicing.specs.Devices.{Device, capacities}
use Rattle.slicing.specs.Dues.{remainder, floors, leftover}

abbrev rems : ℕ → ℕ → List Device → ℕ
rems R C [] = 0
rems R C (e ∷ ds) = remainder R C e + rems R C ds

rems_floors : (R C : ℕ) (ds : List Device) → C * floors R C ds + rems R C ds ≡ R * capacities ds
rems_floors R C [] = omega arith
rems_floors R C (e ∷ ds) = omega (arith, rems_floors R C ds, div-add-mod (R * e.capacity) C)

rems_less : (R C : ℕ) → 1 ≤ C → (ds : List Device) → rems R C ds + length ds ≤ C * length ds
rems_less R C h [] = omega arith
rems_less R C h (e ∷ ds) = omega (arith, rems_less R C h ds, mod-lt (R * e.capacity) h)

pub floors_le : (R : ℕ) (ds : List Device) → 1 ≤ capacities ds → floors R (capacities ds) ds ≤ R
floors_le R ds h = le_of_mul-le-mul_left {k = capacities ds} (omega (arith, rems_floors R (capacities ds) ds)) h

pub leftover_less : (R : ℕ) (ds : List Device) → 1 ≤ capacities ds → 1 ≤ length ds → leftover R (capacities ds) ds < length ds
leftover_less R ds h l =
    let k : R < floors R (capacities ds) ds + length ds =
    lt_of_mul-lt-mul_left (capacities ds) (omega (arith, rems_floors R (capacities ds) ds, rems_less R (capacities ds) h ds)) in
    omega arith
