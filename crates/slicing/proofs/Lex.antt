-- Pairs of a number and an id, ordered from the largest number, equal ones by lower id: the order in which both share rules give points.
--
--   lex p e q d        whether (p, e) goes before (q, d): p above q, or equal and e below d
-- where it holds: lex_more, lex_same, lex_cases (why), lex_trans, lex_total (of two ids one goes first)
-- where it does not: lex_not, lex_false (why), lex_asym
-- and of two numbers: ltb_iff (comparisons that hold together are the same)
use mathlib.Core.Path.{◌≡◌, refl, sym, ap, ◌∙◌}
use mathlib.Core.Bool.{Bool, true, false, not, ◌&&◌, ◌||◌, false≢true}
use mathlib.Core.Logic.{◌⊎◌, inl, inr}
use Prim.Native.Nat.{ℕ, ◌≤◌, ◌<◌}
use native.Mathlib.Omega.{arith}
use lib.Dec.{eqb, ltb}
use borrow.Author.Tests.{ltb-true, ltb-false, lt-ltb, le-ltb, eqb-true, eq-eqb}

-- (p, e) before (q, d): p above q, or equal and e below d
abbrev pub lex : ℕ → ℕ → ℕ → ℕ → Bool
lex p e q d = ltb q p || (eqb q p && ltb e d)

pub lex_cases : (p e q d : ℕ) → lex p e q d ≡ true → (q < p) ⊎ ((q ≡ p) × (e < d))
lex_cases p e q d h = go (ltb q p) (eqb q p) (ltb e d) refl refl refl h
  where
    go : (a b c : Bool) → ltb q p ≡ a → eqb q p ≡ b → ltb e d ≡ c → a || (b && c) ≡ true → (q < p) ⊎ ((q ≡ p) × (e < d))
    go true b c x y z k = inl (ltb-true q p x)
    go false true true x y z k = inr (eqb-true q p y, ltb-true e d z)
    go false true false x y z k = absurd (false≢true k)
    go false false c x y z k = absurd (false≢true k)

pub lex_more : (p e q d : ℕ) → q < p → lex p e q d ≡ true
lex_more p e q d h = rw (lt-ltb q p h)

pub lex_same : (p e q d : ℕ) → q ≡ p → e < d → lex p e q d ≡ true
lex_same p e q d h k = rw (le-ltb q p (omega arith), eq-eqb q p h, lt-ltb e d k)

pub lex_not : (p e q d : ℕ) → p ≤ q → (q ≡ p → d ≤ e) → lex p e q d ≡ false
lex_not p e q d h k = go (eqb q p) refl
  where
    go : (t : Bool) → eqb q p ≡ t → ltb q p || (t && ltb e d) ≡ false
    go true x = rw (le-ltb q p h, le-ltb e d (k (eqb-true q p x)))
    go false x = rw (le-ltb q p h)

pub lex_trans : (p e q d r f : ℕ) → lex p e q d ≡ true → lex q d r f ≡ true → lex p e r f ≡ true
lex_trans p e q d r f h k = go (lex_cases p e q d h) (lex_cases q d r f k)
  where
    go : (q < p) ⊎ ((q ≡ p) × (e < d)) → (r < q) ⊎ ((r ≡ q) × (d < f)) → lex p e r f ≡ true
    go (inl a) (inl b) = lex_more p e r f (omega arith)
    go (inl a) (inr b) = lex_more p e r f (omega arith)
    go (inr a) (inl b) = lex_more p e r f (omega arith)
    go (inr a) (inr b) = lex_same p e r f (omega arith) (omega arith)

pub lex_total : (p e q d : ℕ) → (e ≡ d → ⊥) → lex p e q d ≡ not (lex q d p e)
lex_total p e q d h = go (ltb q p) (ltb p q) (ltb e d) refl refl refl
  where
    go : (a b c : Bool) → ltb q p ≡ a → ltb p q ≡ b → ltb e d ≡ c → lex p e q d ≡ not (lex q d p e)
    go true b c x y z =
        let l : q < p = ltb-true q p x in
        lex_more p e q d l ∙ sym (ap not (lex_not q d p e (omega arith) (λ w. omega arith)))
    go false true c x y z =
        let l : p < q = ltb-true p q y in
        lex_not p e q d (omega arith) (λ w. omega arith) ∙ sym (ap not (lex_more q d p e l))
    go false false true x y z =
        let k : q ≡ p = omega (arith, ltb-false q p x, ltb-false p q y) in
        let l : e < d = ltb-true e d z in
        lex_same p e q d k l ∙ sym (ap not (lex_not q d p e (omega arith) (λ w. omega arith)))
    go false false false x y z =
        let k : q ≡ p = omega (arith, ltb-false q p x, ltb-false p q y) in
        let l : d < e = omega (arith, ltb-false e d z, h) in
        lex_not p e q d (omega arith) (λ w. omega arith) ∙ sym (ap not (lex_same q d p e (sym k) l))

pub lex_false : (p e q d : ℕ) → lex p e q d ≡ false → (p ≤ q) × (q ≡ p → d ≤ e)
lex_false p e q d h = go (ltb q p) (ltb e d) refl refl h
  where
    go : (a c : Bool) → ltb q p ≡ a → ltb e d ≡ c → a || (eqb q p && c) ≡ false → (p ≤ q) × (q ≡ p → d ≤ e)
    go true c x z k = absurd (false≢true (sym k))
    go false true x z k = (ltb-false q p x, λ w. absurd (false≢true (sym k ∙ rw (eq-eqb q p w))))
    go false false x z k = (ltb-false q p x, λ w. ltb-false e d z)

pub lex_asym : (p e q d : ℕ) → lex p e q d ≡ true → lex q d p e ≡ false
lex_asym p e q d h = go (lex_cases p e q d h)
  where
    go : (q < p) ⊎ ((q ≡ p) × (e < d)) → lex q d p e ≡ false
    go (inl a) = lex_not q d p e (omega arith) (λ w. omega arith)
    go (inr a) = lex_not q d p e (omega arith) (λ w. omega arith)

pub ltb_iff : (a b c d : ℕ) → (a < b → c < d) → (c < d → a < b) → ltb a b ≡ ltb c d
ltb_iff a b c d f g = go (ltb c d) refl
  where
    go : (t : Bool) → ltb c d ≡ t → ltb a b ≡ t
    go true e = lt-ltb a b (g (ltb-true c d e))
    go false e = step (ltb a b) refl
      where
        step : (t : Bool) → ltb a b ≡ t → t ≡ false
        step true k = absurd (omega (arith, f (ltb-true a b k), ltb-false c d e))
        step false k = refl
