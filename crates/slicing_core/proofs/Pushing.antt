-- Laws of a run put behind others.
--
-- expand: expand_put, expand_more
-- Coalesced: coalesced_put, coalesced_more
use mathlib.Core.Path.{◌≡◌}
use mathlib.Core.Bool.{Bool, false}
use mathlib.Core.List.{List, [], ◌∷◌, ◌++◌, append_assoc, append-nil}
use Prim.Native.Nat.{ℕ, ◌+◌, ◌≤◌}
use native.Mathlib.Omega.{arith}
use lib.ListN.{replicate, replicate-append-replicate}
use Rattle.slicing.specs.Runs.{Run, ◌of◌, expand, Differs, Coalesced}
use Rattle.slicing.proofs.Runs.{expand_append}

pub expand_put : {A : Type 0} (rs : List (Run A)) (k : ℕ) (x : A) → expand (rs ++ ((k of x) ∷ [])) ≡ expand rs ++ replicate k x
expand_put rs k x = rw (expand_append, append-nil)

pub expand_more : {A : Type 0} (rs : List (Run A)) (m k : ℕ) (x : A)
    → expand (rs ++ ((m + k of x) ∷ [])) ≡ expand (rs ++ ((m of x) ∷ [])) ++ replicate k x
expand_more rs m k x = simp (expand_append, append-nil, append_assoc, replicate-append-replicate)

module _ {A : Type 0} (eq : A → A → Bool) where
  differs_last : (w : A) (rs : List (Run A)) (m n : ℕ) (x : A) (us vs : List (Run A))
      → Differs eq w (rs ++ ((m of x) ∷ us)) → Differs eq w (rs ++ ((n of x) ∷ vs))
  differs_last w [] m n x us vs h = h
  differs_last w ((k of y) ∷ rs) m n x us vs h = h

  pub coalesced_more : (rs : List (Run A)) (m k : ℕ) (x : A) → Coalesced eq (rs ++ ((m of x) ∷ [])) → Coalesced eq (rs ++ ((m + k of x) ∷ []))
  coalesced_more [] m k x h = (omega (arith, h.0), tt, tt)
  coalesced_more ((j of y) ∷ rs) m k x h = (h.0, differs_last y rs m (m + k) x [] [] h.1, coalesced_more rs m k x h.2)

  pub coalesced_put : (rs : List (Run A)) (m k : ℕ) (y x : A) → Coalesced eq (rs ++ ((m of y) ∷ [])) → 1 ≤ k → eq y x ≡ false
      → Coalesced eq (rs ++ ((m of y) ∷ (k of x) ∷ []))
  coalesced_put [] m k y x h l e = (h.0, e, (l, tt, tt))
  coalesced_put ((j of z) ∷ rs) m k y x h l e =
      (h.0, differs_last z rs m m y [] ((k of x) ∷ []) h.1, coalesced_put rs m k y x h.2 l e)
