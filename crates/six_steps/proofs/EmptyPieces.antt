-- Empty pieces, and rows that need nothing, change nothing.
--
-- present: total_present, owned_present, takens_present, needs_present, fill_present
-- fill: fill_points
use mathlib.Core.Path.{◌≡◌, refl, sym, ap, ◌∙◌}
use mathlib.Core.List.{List, [], ◌∷◌}
use Prim.Native.Nat.{ℕ, zero, suc}
use native.Mathlib.Nat.{zero-sub}
use native.Mathlib.Omega.{arith}
use lib.ListN.{drop}
use Rattle.slicing.specs.Runs.{Run, ◌of◌, total, owned, expand, coalesce}
use Rattle.slicing.specs.SixSteps.{needs, Piece, kept, taken, fill, same_turn}
use Rattle.slicing.proofs.Runs.{expand_coalesce, coalesced_coalesce, coalesce_unique}
use Rattle.slicing.proofs.Moves.{same_turn_lem, self_turn}
use Rattle.slicing.proofs.Walk.{takens}
use Rattle.slicing_core.proofs.Points.{given, expand_fill}
use Rattle.packed_runs.specs.Words.{present}

pub total_present : {A : Type 0} (ps : List (Run A)) → total (present ps) ≡ total ps
total_present [] = refl
total_present ((zero of m) ∷ ps) = omega (arith, total_present ps)
total_present ((suc n of m) ∷ ps) = omega (arith, total_present ps)

pub owned_present : (d : ℕ) (rs : List (Run ℕ)) → owned d (present rs) ≡ owned d rs
owned_present d [] = refl
owned_present d ((zero of x) ∷ rs) = omega (arith, owned_present d rs)
owned_present d ((suc n of x) ∷ rs) = omega (arith, owned_present d rs)

pub needs_present : (has due : List (Run ℕ)) → expand (needs has (present due)) ≡ expand (needs has due)
needs_present has [] = refl
needs_present has ((zero of d) ∷ due) = rw (zero-sub (owned d has), needs_present has due)
needs_present has ((suc n of d) ∷ due) = rw (needs_present has due)

pub takens_present : (ps : List (Run Piece)) → total (takens (present ps)) ≡ total (takens ps)
takens_present [] = refl
takens_present ((zero of kept d) ∷ ps) = takens_present ps
takens_present ((zero of taken d) ∷ ps) = omega (arith, takens_present ps)
takens_present ((suc n of kept d) ∷ ps) = takens_present ps
takens_present ((suc n of taken d) ∷ ps) = omega (arith, takens_present ps)

given_present : (ps : List (Run Piece)) (xs : List ℕ) → given (present ps) xs ≡ given ps xs
given_present [] xs = refl
given_present ((zero of kept d) ∷ ps) xs = given_present ps xs
given_present ((zero of taken d) ∷ ps) xs = given_present ps xs
given_present ((suc n of kept d) ∷ ps) xs = rw (given_present ps xs)
given_present ((suc n of taken d) ∷ ps) xs = rw (given_present ps (drop (suc n) xs))

-- a filling depends on the points that it gives
fill_given : (ps qs : List (Run Piece)) (q r : List (Run ℕ)) → given ps (expand q) ≡ given qs (expand r)
    → coalesce same_turn (fill ps q) ≡ coalesce same_turn (fill qs r)
fill_given ps qs q r e =
    coalesce_unique same_turn same_turn_lem self_turn (fill ps q) (coalesce same_turn (fill qs r)) (coalesced_coalesce same_turn same_turn_lem self_turn (fill qs r))
    (expand_fill ps q ∙ e ∙ sym (expand_fill qs r) ∙ sym (expand_coalesce same_turn same_turn_lem self_turn (fill qs r)))

pub fill_present : (ps : List (Run Piece)) (q : List (Run ℕ)) → coalesce same_turn (fill (present ps) q) ≡ coalesce same_turn (fill ps q)
fill_present ps q = fill_given (present ps) ps q q (given_present ps (expand q))

-- a filling depends on the points of the queue alone: rows that need nothing change nothing
pub fill_points : (ps : List (Run Piece)) (q r : List (Run ℕ)) → expand q ≡ expand r → coalesce same_turn (fill ps q) ≡ coalesce same_turn (fill ps r)
fill_points ps q r e = fill_given ps ps q r (ap (given ps) e)
