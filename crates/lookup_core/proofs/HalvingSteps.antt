-- Laws of the search by halving: what `place` and `owner_found` need.
--
--   Halved s x n lo hi     halving from lo and hi ends where halving all n places does
--
-- halve: halve_end (one place is left), halve_more (steps to spare change nothing), halve_step (more than one place is left)
-- Halved: halved_all, halved_up, halved_down, halved_one
-- owner_found: owner_found_none, owner_found_some
use mathlib.Core.Path.{◌≡◌, refl, sym, ◌∙◌}
use mathlib.Core.Bool.{Bool, true, false, cond}
use mathlib.Core.List.{List}
use Prim.Native.Nat.{ℕ, zero, suc, ◌+◌, ◌-◌, ◌/◌, ◌≤◌, ◌<◌}
use native.Mathlib.Omega.{arith}
use lib.Dec.{leb, ltb}
use borrow.Author.Tests.{ltb-true, lt-ltb, le-ltb, le-leb, lt-leb, eq-eqb, ne_eqb}
use Rattle.slicing_core.specs.Rows.{at}
use Rattle.lookup_core.specs.Halving.{halve, owner_found}

module _ (s : List ℕ) (x : ℕ) where
  pub halve_end : (f lo hi : ℕ) → hi ≤ lo + 1 → halve s x f lo hi ≡ lo
  halve_end zero lo hi h = refl
  halve_end (suc f) lo hi h = rw (le-ltb (lo + 1) hi h)

  pub halve_more : (f lo hi : ℕ) → hi - lo ≤ f → halve s x (suc f) lo hi ≡ halve s x f lo hi
  halve_more zero lo hi h = halve_end 1 lo hi (omega arith)
  halve_more (suc f) lo hi h = go (ltb (lo + 1) hi) refl (λ p q. halve_more f p q)
    where
      go : (b : Bool) → ltb (lo + 1) hi ≡ b → ((p q : ℕ) → q - p ≤ f → halve s x (suc f) p q ≡ halve s x f p q)
          → halve s x (suc (suc f)) lo hi ≡ halve s x (suc f) lo hi
      go true e more =
          let l : lo + 1 < hi = ltb-true _ _ e in
          rw (more ((lo + hi) / 2) hi (omega arith), more lo ((lo + hi) / 2) (omega arith))
      go false e more = rw e

  pub halve_step : (f lo hi : ℕ) → hi - lo ≤ f → lo + 1 < hi
      → halve s x f lo hi ≡ cond (leb (at s ((lo + hi) / 2)) x) (halve s x f ((lo + hi) / 2) hi) (halve s x f lo ((lo + hi) / 2))
  halve_step zero lo hi h l = absurd (omega arith)
  halve_step (suc f) lo hi h l =
      rw (lt-ltb (lo + 1) hi l, halve_more f ((lo + hi) / 2) hi (omega arith), halve_more f lo ((lo + hi) / 2) (omega arith))

  pub record Halved (n lo hi : ℕ) : Type 0 where
    pub some : lo < hi
    pub within : hi ≤ n
    pub same : halve s x n lo hi ≡ halve s x n 0 n

  pub halved_all : (n : ℕ) → 1 ≤ n → Halved n 0 n
  halved_all n h = record { some = h; within = omega arith; same = refl }

  module _ (n lo hi : ℕ) (d : Halved n lo hi) where
    pub halved_up : lo + 1 < hi → at s ((lo + hi) / 2) ≤ x → Halved n ((lo + hi) / 2) hi
    halved_up h l =
        let step = rw (le-leb _ _ l) at (halve_step n lo hi (omega arith) h) in
        record { some = omega arith; within = d.within; same = sym step ∙ d.same }

    pub halved_down : lo + 1 < hi → x < at s ((lo + hi) / 2) → Halved n lo ((lo + hi) / 2)
    halved_down h l =
        let step = rw (lt-leb _ _ l) at (halve_step n lo hi (omega arith) h) in
        record { some = omega arith; within = omega arith; same = sym step ∙ d.same }

    pub halved_one : hi ≤ lo + 1 → (lo < n) × (lo ≡ halve s x n 0 n)
    halved_one h = (omega arith, sym (halve_end n lo hi h) ∙ d.same)

module _ (s o : List ℕ) (n x : ℕ) where
  pub owner_found_none : n ≡ 0 → 0 ≡ owner_found s o n x
  unfolding owner_found
  owner_found_none e = rw (eq-eqb n 0 e)

  pub owner_found_some : (i : ℕ) → (n ≡ 0 → ⊥) → i ≡ halve s x n 0 n → at o i ≡ owner_found s o n x
  unfolding owner_found
  owner_found_some i e p = rw (ne_eqb n 0 e, p)
