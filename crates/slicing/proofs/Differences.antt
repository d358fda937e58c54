-- Laws of the difference of two numbers, with its sign.
--
-- pos a -ℤ pos b: minus_same (0 for equal numbers), minus_zero (and for these only), minus_plus (differences add up to the difference of
--   the sums), minus_is (by the order of the two)
-- its order: minus_above (above −c), minus_below (below c), minus_mag (its magnitude is that of the two at most)
use mathlib.Core.Path.{◌≡◌, refl, sym, ap, ◌∙◌, subst}
use mathlib.Core.Bool.{Bool, true, false, cond}
use Prim.Native.Nat.{ℕ, zero, suc, ◌+◌, ◌-◌, ◌<◌}
use native.Mathlib.Omega.{arith}
use lib.Dec.{ltb, lt→ltb}
use lib.IntN.{ℤ, pos, negsuc, neg_ℤ, nat_abs, ◌+ℤ◌, ◌-ℤ◌, +ℤ_assoc, +ℤ_comm, +ℤ_invr, -ℤ-+ℤ_cancel, neg_ℤ-+ℤ}
use lib.Signed.{◌<ℤ◌, mag, lt_z_yes}
use borrow.Author.Tests.{ltb-true, ltb-false, le-ltb}

pub minus_same : (a b : ℕ) → a ≡ b → pos a -ℤ pos b ≡ pos 0
minus_same a b e = ap (λ x. pos x -ℤ pos b) e ∙ +ℤ_invr (pos b)

pub minus_zero : (a b : ℕ) → pos a -ℤ pos b ≡ pos 0 → a ≡ b
minus_zero a b e = ap nat_abs (sym (-ℤ-+ℤ_cancel (pos a) (pos b)) ∙ ap (λ x. x +ℤ pos b) e) ∙ omega arith

pub minus_plus : (a b c d : ℕ) → (pos a -ℤ pos b) +ℤ (pos c -ℤ pos d) ≡ pos (a + c) -ℤ pos (b + d)
minus_plus a b c d =
    +ℤ_assoc (pos a) (neg_ℤ (pos b)) (pos c -ℤ pos d)
    ∙ ap (λ x. pos a +ℤ x) middle
    ∙ sym (+ℤ_assoc (pos a) (pos c) (neg_ℤ (pos b) +ℤ neg_ℤ (pos d)))
    ∙ ap (λ x. pos (a + c) +ℤ x) (sym (neg_ℤ-+ℤ (pos b) (pos d)))
  where
    middle : neg_ℤ (pos b) +ℤ (pos c +ℤ neg_ℤ (pos d)) ≡ pos c +ℤ (neg_ℤ (pos b) +ℤ neg_ℤ (pos d))
    middle =
        sym (+ℤ_assoc (neg_ℤ (pos b)) (pos c) (neg_ℤ (pos d)))
        ∙ ap (λ x. x +ℤ neg_ℤ (pos d)) (+ℤ_comm (neg_ℤ (pos b)) (pos c))
        ∙ +ℤ_assoc (pos c) (neg_ℤ (pos b)) (neg_ℤ (pos d))

minus_is : (a b : ℕ) → pos a -ℤ pos b ≡ cond (ltb a b) (negsuc (b - suc a)) (pos (a - b))
minus_is a zero = rw (le-ltb a 0 (omega arith)) (ap pos (omega arith))
minus_is a (suc b) = refl

-- what is shown of both cases of `minus_is` holds of the difference
minus_cases : (P : ℤ → Type 0) (a b : ℕ) → (a < b → P (negsuc (b - suc a))) → (b < suc a → P (pos (a - b))) → P (pos a -ℤ pos b)
minus_cases P a b f g = subst P (sym (minus_is a b)) (go (ltb a b) refl)
  where
    go : (t : Bool) → ltb a b ≡ t → P (cond t (negsuc (b - suc a)) (pos (a - b)))
    go true e = f (ltb-true a b e)
    go false e = g (omega (arith, ltb-false a b e))

pub minus_above : (a b c : ℕ) → b < a + c → neg_ℤ (pos c) <ℤ (pos a -ℤ pos b)
minus_above a b zero h =
    minus_cases (λ x. pos 0 <ℤ x) a b (λ l. absurd (omega (arith, h, l))) (λ l. lt_z_yes (lt→ltb 0 (a - b) (omega (arith, h))))
minus_above a b (suc c) h =
    minus_cases (λ x. negsuc c <ℤ x) a b (λ l. lt_z_yes (lt→ltb (b - suc a) c (omega (arith, h, l)))) (λ l. lt_z_yes tt)

pub minus_below : (a b c : ℕ) → a < b + c → (pos a -ℤ pos b) <ℤ pos c
minus_below a b c h = minus_cases (λ x. x <ℤ pos c) a b (λ l. lt_z_yes tt) (λ l. lt_z_yes (lt→ltb (a - b) c (omega (arith, h, l))))

pub minus_mag : (a b k : ℕ) → a < k → b < k → mag (pos a -ℤ pos b) < k
minus_mag a b k h i = minus_cases (λ x. mag x < k) a b (λ l. omega (arith, h, i)) (λ l. omega (arith, h, i))
