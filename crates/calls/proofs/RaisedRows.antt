-- Rows as they come and go, what stands in them, and what a table gives them.
--
--   Raised p x      row x stays where a row comes in at p, or becomes the next
--   Lowered p x     row x becomes the one before where row p goes, or stays
--
-- raised: raised_cases, raised_below, raised_apart, raised_other (no row becomes the one that comes in)
-- lowered: lowered_cases, raised_lowered
-- rows of arrays: inserted_raised, deleted_lowered (where a value stands afterwards)
-- owned: owned_none (what no run has), owned_raised, owned_raised_in (what each row has in a table whose rows were raised)
use mathlib.Core.Path.{◌≡◌, refl, ap, ◌∙◌}
use mathlib.Core.Bool.{Bool, true, false, cond}
use mathlib.Core.List.{List, [], ◌∷◌}
use mathlib.Core.Logic.{◌⊎◌, inl, inr}
use Prim.Native.Nat.{ℕ, ◌+◌, ◌-◌, ◌≤◌, ◌<◌}
use native.Mathlib.Omega.{arith}
use lib.Dec.{ltb}
use borrow.Author.Tests.{ltb-true, ltb-false, ne_eqb}
use Rattle.slicing.specs.Runs.{Run, ◌of◌, owned, relabel}
use Rattle.slicing_core.specs.Rows.{at}
use Rattle.slicing_core.specs.Stages.{Inserted, Deleted}
use Rattle.six_steps.proofs.Renaming.{owned_rename}
use Rattle.plans.specs.Labels.{raised, lowered}

-- ---- rows

abbrev pub Raised : ℕ → ℕ → Type 0
Raised p x = ((x < p) × (raised p x ≡ x)) ⊎ ((p ≤ x) × (raised p x ≡ x + 1))

abbrev pub Lowered : ℕ → ℕ → Type 0
Lowered p x = ((p < x) × (lowered p x ≡ x - 1)) ⊎ ((x ≤ p) × (lowered p x ≡ x))

pub raised_cases : (p x : ℕ) → Raised p x
raised_cases p x = go (ltb x p) refl
  where
    go : (t : Bool) → ltb x p ≡ t → ((x < p) × (cond t x (x + 1) ≡ x)) ⊎ ((p ≤ x) × (cond t x (x + 1) ≡ x + 1))
    go true e = inl (ltb-true x p e, refl)
    go false e = inr (ltb-false x p e, refl)

pub raised_apart : (p x y : ℕ) → raised p x ≡ raised p y → x ≡ y
raised_apart p x y e = go (raised_cases p x) (raised_cases p y)
  where
    go : Raised p x → Raised p y → x ≡ y
    go (inl a) (inl b) = omega arith
    go (inl a) (inr b) = omega arith
    go (inr a) (inl b) = omega arith
    go (inr a) (inr b) = omega arith

pub raised_other : (p x : ℕ) → p ≡ raised p x → ⊥
raised_other p x e = go (raised_cases p x)
  where
    go : Raised p x → ⊥
    go (inl a) = omega arith
    go (inr a) = omega arith

pub raised_below : (p x : ℕ) → x < p → raised p x ≡ x
raised_below p x h = go (raised_cases p x)
  where
    go : Raised p x → raised p x ≡ x
    go (inl a) = a.1
    go (inr a) = omega arith

pub lowered_cases : (p x : ℕ) → Lowered p x
lowered_cases p x = go (ltb p x) refl
  where
    go : (t : Bool) → ltb p x ≡ t → ((p < x) × (cond t (x - 1) x ≡ x - 1)) ⊎ ((x ≤ p) × (cond t (x - 1) x ≡ x))
    go true e = inl (ltb-true p x e, refl)
    go false e = inr (ltb-false p x e, refl)

pub raised_lowered : (p x : ℕ) → (x ≡ p → ⊥) → raised p (lowered p x) ≡ x
raised_lowered p x h = go (lowered_cases p x) (raised_cases p (lowered p x))
  where
    go : Lowered p x → Raised p (lowered p x) → raised p (lowered p x) ≡ x
    go (inl a) (inl b) = omega arith
    go (inl a) (inr b) = omega arith
    go (inr a) (inl b) = omega arith
    go (inr a) (inr b) = absurd (h (omega arith))

-- ---- rows of arrays

pub inserted_raised : {xs ys : List ℕ} {n p v : ℕ} → Inserted xs n p v ys → (i : ℕ) → i < n → at ys (raised p i) ≡ at xs i
inserted_raised {xs} {ys} {n} {p} h i b = go (raised_cases p i)
  where
    go : Raised p i → at ys (raised p i) ≡ at xs i
    go (inl m) = rw m.1 (h.before i m.0)
    go (inr m) = rw m.1 (h.after i m.0 b)

pub deleted_lowered : {xs ys : List ℕ} {n p : ℕ} → Deleted xs n p ys → (i : ℕ) → (i ≡ p → ⊥) → i < n → at ys (lowered p i) ≡ at xs i
deleted_lowered {xs} {ys} {n} {p} h i other b = go (lowered_cases p i)
  where
    go : Lowered p i → at ys (lowered p i) ≡ at xs i
    go (inl m) = let e : i - 1 + 1 ≡ i = omega arith in rw m.1 (h.after (i - 1) (omega arith) (omega arith) ∙ ap (at xs) e)
    go (inr m) = rw m.1 (h.before i (omega (arith, other)))

-- ---- what each row has

pub owned_none : (f : ℕ → ℕ) (d : ℕ) → ((x : ℕ) → d ≡ f x → ⊥) → (rs : List (Run ℕ)) → owned d (relabel f rs) ≡ 0
owned_none f d h [] = refl
owned_none f d h ((n of x) ∷ rs) = rw (ne_eqb d (f x) (h x)) (omega (arith, owned_none f d h rs))

module _ (p : ℕ) (rs : List (Run ℕ)) where
  pub owned_raised : (x : ℕ) → owned (raised p x) (relabel (raised p) rs) ≡ owned x rs
  owned_raised x = owned_rename (raised p) (raised_apart p) x rs

  pub owned_raised_in : owned p (relabel (raised p) rs) ≡ 0
  owned_raised_in = owned_none (raised p) p (raised_other p) rs
