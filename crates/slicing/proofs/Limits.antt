-- Laws of the limits, and the sizes that shares and images rest on with the limits in force.
--
-- outside: or_false, outside_false, within_limits
-- sizes: product_size (R × c is at most 2^32 × 16,000,000, far inside 64 bits), sum_size (C is at most 256 × 16,000,000, which even 32 bits
--   hold), capacity_size (a capacity fits its four bytes in an image)
use mathlib.Core.Path.{◌≡◌, refl}
use mathlib.Core.Bool.{Bool, true, false, ◌||◌, true≢false}
use mathlib.Core.List.{List, [], ◌∷◌}
use Prim.Native.Nat.{ℕ, ◌*◌, ◌^◌, ◌≤◌, ◌<◌}
use native.Mathlib.Nat.{mul-le-mul}
use native.Mathlib.Omega.{arith}
use lib.Dec.{ltb}
use lib.ListN.{length}
use borrow.Author.Tests.{le-ltb, ltb-false}
use Rattle.slicing.specs.Devices.{Device, capacities, Rising}
use Rattle.slicing.specs.Limits.{max_range, max_devices, max_capacity, outside}

-- ---- outside

pub or_false : (a b : Bool) → a || b ≡ false → (a ≡ false) × (b ≡ false)
or_false true b e = absurd (true≢false e)
or_false false b e = (refl, e)

module _ (k x : ℕ) where
  pub outside_false : outside k x ≡ false → (1 ≤ x) × (x ≤ k)
  outside_false e =
      let p : (ltb x 1 ≡ false) × (ltb k x ≡ false) = or_false (ltb x 1) (ltb k x) e in
      (ltb-false x 1 p.0, ltb-false k x p.1)

  pub within_limits : 1 ≤ x → x ≤ k → outside k x ≡ false
  within_limits l h = rw (le-ltb x 1 l, le-ltb k x h)

-- ---- sizes

pub product_size : {R c : ℕ} → R ≤ max_range → c ≤ max_capacity → R * c ≤ 68719476736000000
product_size h l = mul-le-mul h l

capacities_most : (a : ℕ) (ds : List Device) → Rising a ds → capacities ds ≤ max_capacity * length ds
capacities_most a [] h = omega arith
capacities_most a (e ∷ ds) h = omega (arith, h.0.most, capacities_most e.id ds h.1)

pub sum_size : (ds : List Device) → Rising 0 ds → length ds ≤ max_devices → capacities ds ≤ 4096000000
sum_size ds h l = omega (arith, capacities_most 0 ds h)

pub capacity_size : {c : ℕ} → c ≤ max_capacity → c < 2 ^ 32
capacity_size h = omega arith
