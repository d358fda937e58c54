-- Which way moves go: from a device that releases to one that needs.
--
--   Each P rs               what every run of rs that is not empty has meets P
--   Crosses A B t           a point that changes its owner goes from a device of A to one of B
--   pieces table has due    the old table as kept and taken pieces
-- Each: each_weaken, each_append, each_drop_points, each_push, each_coalesce, each_owned (what a run has, it owns), each_relabel
--   each_fill               taken points cross from their owners to the queue's
--   each_moves_from, each_moves    what holds of the turns holds of the moves
-- Law: moves_turns.
use mathlib.Core.Path.{◌≡◌, refl, subst}
use mathlib.Core.Bool.{Bool, true, false, cond}
use mathlib.Core.List.{List, [], ◌∷◌, ◌++◌}
use Prim.Native.Nat.{ℕ, zero, suc, ◌+◌, ◌-◌, ◌≤◌, ◌<◌}
use native.Mathlib.Omega.{arith}
use lib.Dec.{eqb}
use lib.ListN.{length}
use borrow.Author.Tests.{eqb-false, eq-eqb}
use Rattle.slicing.specs.Claims.{move_at}
use Rattle.slicing.specs.Runs.{Run, ◌of◌, owned, take_points, drop_points, relabel, push, coalesce, Coalesced}
use Rattle.slicing.specs.SixSteps.{release, end, Piece, kept, taken, walk, Turn, ◌⟶◌, old, new, same_turn, fill, turns, needs, move, moves_from, moves}
use Rattle.slicing.proofs.Moves.{same_turn_lem, self_turn}
use Rattle.slicing.proofs.Runs.{coalesced_coalesce}
use Rattle.slicing.proofs.SixSteps.{Balanced, owned_takens, owned_needs}
use Rattle.slicing.proofs.Walk.{takens}

abbrev pub Each : {A : Type 0} → (A → Type 0) → List (Run A) → Type 0
Each P [] = Unit {0}
Each P ((n of x) ∷ rs) = (1 ≤ n → P x) × Each P rs

module _ {A : Type 0} (P : A → Type 0) where
  each_weaken : (Q : A → Type 0) → ((x : A) → P x → Q x) → (rs : List (Run A)) → Each P rs → Each Q rs
  each_weaken Q f [] h = tt
  each_weaken Q f ((n of x) ∷ rs) h = (λ l. f x (h.0 l), each_weaken Q f rs h.1)

  each_append : (rs ss : List (Run A)) → Each P rs → Each P ss → Each P (rs ++ ss)
  each_append [] ss h k = k
  each_append ((n of x) ∷ rs) ss h k = (h.0, each_append rs ss h.1 k)

  each_drop_points : (k : ℕ) (rs : List (Run A)) → Each P rs → Each P (drop_points k rs)
  each_drop_points k [] h = tt
  each_drop_points k ((n of x) ∷ rs) h = (λ l. h.0 (omega arith), each_drop_points (k - n) rs h.1)

  module _ (eq : A → A → Bool) (same : (x y : A) → eq x y ≡ true → x ≡ y) where
    each_push : (n : ℕ) (x : A) (rs : List (Run A)) → (1 ≤ n → P x) → Each P rs → Each P (push eq n x rs)
    each_push zero x rs p h = h
    each_push (suc n) x [] p h = (p, tt)
    each_push (suc n) x ((m of y) ∷ rs) p h = go (eq x y) refl
      where
        go : (t : Bool) → eq x y ≡ t → Each P (cond t ((suc n + m of y) ∷ rs) ((suc n of x) ∷ (m of y) ∷ rs))
        go true e = (λ l. subst P (same x y e) (p (omega arith)), h.1)
        go false e = (p, h)

    each_coalesce : (rs : List (Run A)) → Each P rs → Each P (coalesce eq rs)
    each_coalesce [] h = tt
    each_coalesce ((n of x) ∷ rs) h = each_push n x (coalesce eq rs) h.0 (each_coalesce rs h.1)

each_owned : (rs : List (Run ℕ)) → Each (λ d. 1 ≤ owned d rs) rs
each_owned [] = tt
each_owned ((n of d) ∷ rs) =
    (λ l. rw (eq-eqb d d refl) (omega arith), each_weaken (λ e. 1 ≤ owned e rs) (λ e. 1 ≤ owned e ((n of d) ∷ rs)) (λ e l. omega arith) rs (each_owned rs))

-- ---- the filling and the moves

abbrev pub Crosses : (ℕ → Type 0) → (ℕ → Type 0) → Turn → Type 0
Crosses A B t = (old t ≡ new t → ⊥) → A (old t) × B (new t)

module _ (A B : ℕ → Type 0) where
  each_relabel : (d n : ℕ) (rs : List (Run ℕ)) → (1 ≤ n → A d) → Each B rs → Each (Crosses A B) (relabel (λ e. d ⟶ e) (take_points n rs))
  each_relabel d n [] a b = tt
  each_relabel d n ((m of e) ∷ rs) a b =
      (λ l z. (a (omega arith), b.0 (omega arith)), each_relabel d (n - m) rs (λ l. a (omega arith)) b.1)

  each_fill : (ps : List (Run Piece)) (q : List (Run ℕ)) → Each A (takens ps) → Each B q → Each (Crosses A B) (fill ps q)
  each_fill [] q a b = tt
  each_fill ((n of kept d) ∷ ps) q a b = (λ l z. absurd (z refl), each_fill ps q a b)
  each_fill ((n of taken d) ∷ ps) q a b =
      each_append (Crosses A B) (relabel (λ e. d ⟶ e) (take_points n q)) (fill ps (drop_points n q)) (each_relabel d n q a.0 b)
      (each_fill ps (drop_points n q) a.1 (each_drop_points B n q b))

each_moves_from : (A B : ℕ → Type 0) (p : ℕ) (ts : List (Run Turn)) → Coalesced same_turn ts → Each (Crosses A B) ts
    → (i : ℕ) → i < length (moves_from p ts) → A (move_at (moves_from p ts) i).from × B (move_at (moves_from p ts) i).to
each_moves_from A B p [] c h i l = absurd (omega arith)
each_moves_from A B p ((n of (a ⟶ b)) ∷ ts) c h i l = go (eqb a b) refl i l (each_moves_from A B (p + n) ts c.2 h.1)
  where
    go : (t : Bool) → eqb a b ≡ t → (i : ℕ) → i < length (cond t (moves_from (p + n) ts) (move p n a b ∷ moves_from (p + n) ts))
        → ((i : ℕ) → i < length (moves_from (p + n) ts) → A (move_at (moves_from (p + n) ts) i).from × B (move_at (moves_from (p + n) ts) i).to)
        → A (move_at (cond t (moves_from (p + n) ts) (move p n a b ∷ moves_from (p + n) ts)) i).from
        × B (move_at (cond t (moves_from (p + n) ts) (move p n a b ∷ moves_from (p + n) ts)) i).to
    go true e i l ih = ih i l
    go false e zero l ih = h.0 c.0 (eqb-false a b e)
    go false e (suc i) l ih = ih i (omega arith)

pub each_moves : (A B : ℕ → Type 0) (ts : List (Run Turn)) → Each (Crosses A B) ts → (i : ℕ) → i < length (moves ts)
    → A (move_at (moves ts) i).from × B (move_at (moves ts) i).to
each_moves A B ts h =
    each_moves_from A B 0 (coalesce same_turn ts) (coalesced_coalesce same_turn same_turn_lem self_turn ts) (each_coalesce (Crosses A B) same_turn same_turn_lem ts h)

abbrev pub pieces : List (Run ℕ) → List (Run ℕ) → List (Run ℕ) → List (Run Piece)
pieces table has due = walk (release has due) end false table

pub moves_turns : (table has due : List (Run ℕ)) → Balanced table has due → (i : ℕ) → i < length (moves (turns table has due))
    → (owned (move_at (moves (turns table has due)) i).from due < owned (move_at (moves (turns table has due)) i).from has)
    × (owned (move_at (moves (turns table has due)) i).to has < owned (move_at (moves (turns table has due)) i).to due)
unfolding turns
moves_turns table has due h =
    let A : ℕ → Type 0 = λ d. owned d due < owned d has in
    let B : ℕ → Type 0 = λ d. owned d has < owned d due in
    each_moves A B (fill (pieces table has due) (needs has due))
    (each_fill A B (pieces table has due) (needs has due)
    (each_weaken (λ d. 1 ≤ owned d (takens (pieces table has due))) A (λ d l. omega (arith, owned_takens table has due h d))
    (takens (pieces table has due)) (each_owned (takens (pieces table has due))))
    (each_weaken (λ d. 1 ≤ owned d (needs has due)) B (λ d l. omega (arith, owned_needs table has due h d)) (needs has due) (each_owned (needs has due))))
