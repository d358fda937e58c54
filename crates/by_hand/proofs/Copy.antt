-- A list whose first i places were overwritten by the first i of another: what a loop that copies one slice over another has after i turns.
--     at_first     before the first turn.        at_next      one more turn.        same_length      it is as long as the list was
use mathlib.Core.Path.{◌≡◌, refl, ◌∙◌, ap}
use Prim.Native.Nat.{ℕ, suc, ◌+◌, ◌≤◌, ◌<◌}
use native.Mathlib.Nat.{le_of_lt}
use native.Mathlib.Numerals.{add-one}
use native.Mathlib.Omega.{arith}
use mathlib.Core.List.{List, ◌++◌, append_assoc}
use lib.ListN.{length, take, drop, set, get_or, length-append, length-drop}
use lib.Seq.{drop-cons, take-suc, set_at, length-take-le}

abbrev pub copied : {A : Type 0} → List A → List A → ℕ → List A
copied xs ys i = take i xs ++ drop i ys

pub at_first : {A : Type 0} (xs ys : List A) → ys ≡ copied xs ys 0
at_first xs ys = refl

pub at_next : {A : Type 0} (xs ys : List A) (i : ℕ) (d : A) → i < length xs → i < length ys → set (copied xs ys i) i (get_or xs i d) ≡ copied xs ys (i + 1)
at_next xs ys i d h k = ap (λ (l : List _). set (take i xs ++ l) i (get_or xs i d)) (drop-cons ys i d k) ∙ set_at (take i xs) (get_or ys i d) (drop (suc i) ys) (get_or xs i d) i (length-take-le i xs (le_of_lt h)) ∙ rw (add-one, take-suc xs i d, append_assoc)

pub same_length : {A : Type 0} (xs ys : List A) (i : ℕ) → i ≤ length xs → i ≤ length ys → length (copied xs ys i) ≡ length ys
same_length xs ys i h k = let e : length (take i xs) ≡ i = length-take-le i xs h in simp (length-append, length-drop) (omega (arith, e))
