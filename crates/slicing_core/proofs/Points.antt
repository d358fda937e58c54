-- Laws of points: the first of some runs, the others, and a filling by points.
--
--   given ps xs     the pieces ps, each point with its old owner and its new, where the points taken go to xs in order
--
-- take and drop: take_run, drop_run (a run that is within the first points), take_replicate, drop_replicate
-- expand: expand_take_points, expand_drop_points, expand_fill (a filling depends on the points of the needs alone)
use mathlib.Core.Path.{◌≡◌, refl, sym, ap, ◌∙◌}
use mathlib.Core.Bool.{Bool, true, false}
use mathlib.Core.List.{List, [], ◌∷◌, ◌++◌, map, append_assoc, append-nil}
use Prim.Native.Nat.{ℕ, ◌+◌, ◌-◌, ◌≤◌, min}
use native.Mathlib.Omega.{arith}
use lib.Dec.{leb}
use lib.ListN.{take, drop, replicate, length-replicate, replicate-append-replicate}
use lib.Seq.{take-nil, drop-nil, take_at, drop_at, take-append-add, drop-append-add}
use borrow.Author.Tests.{leb-true, leb-false}
use Rattle.slicing.specs.Runs.{Run, ◌of◌, expand, take_points, drop_points}
use Rattle.slicing.specs.SixSteps.{Piece, kept, taken, Turn, ◌⟶◌, fill}
use Rattle.slicing.proofs.Runs.{expand_append, expand_relabel}

abbrev pub given : List (Run Piece) → List ℕ → List Turn
given [] xs = []
given ((n of kept d) ∷ ps) xs = replicate n (d ⟶ d) ++ given ps xs
given ((n of taken d) ∷ ps) xs = map (λ e. d ⟶ e) (take n xs) ++ given ps (drop n xs)

module _ {A : Type 0} where
  pub take_run : (m k : ℕ) (x : A) (xs : List A) → take (m + k) (replicate m x ++ xs) ≡ replicate m x ++ take k xs
  take_run m k x xs = rw (length-replicate m x) at (take-append-add (replicate m x) xs k)

  pub drop_run : (m k : ℕ) (x : A) (xs : List A) → drop (m + k) (replicate m x ++ xs) ≡ drop k xs
  drop_run m k x xs = rw (length-replicate m x) at (drop-append-add (replicate m x) xs k)

  -- a run that is longer than the first k points
  split_run : (k n : ℕ) (x : A) (xs : List A) → k ≤ n → replicate n x ++ xs ≡ replicate k x ++ (replicate (n - k) x ++ xs)
  split_run k n x xs h =
      let e : n ≡ k + (n - k) = omega arith in
      ap (λ z. replicate z x ++ xs) e
      ∙ ap (λ r. r ++ xs) (sym (replicate-append-replicate k (n - k) x))
      ∙ append_assoc (replicate k x) (replicate (n - k) x) xs

  pub take_replicate : (k n : ℕ) (x : A) (xs : List A) → take k (replicate n x ++ xs) ≡ replicate (min k n) x ++ take (k - n) xs
  take_replicate k n x xs = go (leb n k) refl
    where
      go : (b : Bool) → leb n k ≡ b → take k (replicate n x ++ xs) ≡ replicate (min k n) x ++ take (k - n) xs
      go true e =
          let l : n ≤ k = leb-true n k e in
          let j : k ≡ n + (k - n) = omega arith in
          let m : min k n ≡ n = omega arith in
          rw m (ap (λ z. take z (replicate n x ++ xs)) j ∙ take_run n (k - n) x xs)
      go false e =
          let l : k ≤ n = omega (arith, leb-false n k e) in
          let m : min k n ≡ k = omega arith in
          let z : k - n ≡ 0 = omega arith in
          rw (m, z, append-nil, split_run k n x xs l) (take_at (replicate k x) (replicate (n - k) x ++ xs) k (length-replicate k x))

  pub drop_replicate : (k n : ℕ) (x : A) (xs : List A) → drop k (replicate n x ++ xs) ≡ replicate (n - k) x ++ drop (k - n) xs
  drop_replicate k n x xs = go (leb n k) refl
    where
      go : (b : Bool) → leb n k ≡ b → drop k (replicate n x ++ xs) ≡ replicate (n - k) x ++ drop (k - n) xs
      go true e =
          let l : n ≤ k = leb-true n k e in
          let j : k ≡ n + (k - n) = omega arith in
          let z : n - k ≡ 0 = omega arith in
          rw z (ap (λ z. drop z (replicate n x ++ xs)) j ∙ drop_run n (k - n) x xs)
      go false e =
          let l : k ≤ n = omega (arith, leb-false n k e) in
          let z : k - n ≡ 0 = omega arith in
          rw (z, split_run k n x xs l) (drop_at (replicate k x) (replicate (n - k) x ++ xs) k (length-replicate k x))

  pub expand_take_points : (k : ℕ) (rs : List (Run A)) → expand (take_points k rs) ≡ take k (expand rs)
  expand_take_points k [] = sym (take-nil k)
  expand_take_points k ((n of x) ∷ rs) = rw (take_replicate, expand_take_points (k - n) rs)

  pub expand_drop_points : (k : ℕ) (rs : List (Run A)) → expand (drop_points k rs) ≡ drop k (expand rs)
  expand_drop_points k [] = sym (drop-nil k)
  expand_drop_points k ((n of x) ∷ rs) = rw (drop_replicate, expand_drop_points (k - n) rs)

pub expand_fill : (ps : List (Run Piece)) (q : List (Run ℕ)) → expand (fill ps q) ≡ given ps (expand q)
expand_fill [] q = refl
expand_fill ((n of kept d) ∷ ps) q = rw (expand_fill ps q)
expand_fill ((n of taken d) ∷ ps) q =
    rw (expand_append, expand_relabel, expand_take_points n q, expand_fill ps (drop_points n q), expand_drop_points n q)
