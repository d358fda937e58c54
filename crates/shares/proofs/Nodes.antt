-- The nodes above a node.
--
-- Above: above_le, above_up (the node above that), above_next (a node above m but for m itself is above its half), above_down (one of the two
--   nodes below a node leads on), above_leaf (above a leaf there is no other leaf), above_root (node 1 is above all)
use mathlib.Core.Path.{◌≡◌, ap}
use mathlib.Core.Logic.{◌⊎◌, inl, inr}
use Prim.Native.Nat.{ℕ, zero, suc, ◌+◌, ◌*◌, ◌/◌, ◌%◌, ◌≤◌, ◌<◌}
use native.Mathlib.Decide.{ℕ_discrete}
use native.Mathlib.Omega.{arith}
use Rattle.shares.specs.Tournament.{Above, here, half}

pub above_le : {k m : ℕ} → Above k m → k ≤ m
above_le (here e) = omega arith
above_le (half h) = omega (arith, above_le h)

pub above_up : {k m : ℕ} → Above k m → Above (k / 2) m
above_up (here e) = half (here (ap (λ j. j / 2) e))
above_up (half h) = half (above_up h)

pub above_next : {k m : ℕ} → (k ≡ m → ⊥) → Above k m → Above k (m / 2)
above_next d (here e) = absurd (d e)
above_next d (half h) = h

pub above_down : {k m : ℕ} → Above k m → (k ≡ m) ⊎ (Above (2 * k) m ⊎ Above (2 * k + 1) m)
above_down (here e) = inl e
above_down {k} {m} (half h) =
    elim (above_down h) [
      | inl e ↦ elim (ℕ_discrete (m % 2) 0) [ yes x ↦ inr (inl (here {m = m} (omega arith))) | no x ↦ inr (inr (here {m = m} (omega (arith, x)))) ]
      | inr (inl x) ↦ inr (inl (half x))
      | inr (inr x) ↦ inr (inr (half x))
    ]

pub above_leaf : {k m n : ℕ} → n ≤ k → m < n + n → Above k m → k ≡ m
above_leaf l s (here e) = e
above_leaf l s (half h) = absurd (omega (arith, above_le h))

pub above_root : (f m : ℕ) → 1 ≤ m → m ≤ f → Above 1 m
above_root zero m l h = absurd (omega arith)
above_root (suc f) m l h =
    elim (ℕ_discrete 1 m) [ yes e ↦ here e | no d ↦ half (above_root f (m / 2) (omega (arith, d)) (omega arith)) ]
