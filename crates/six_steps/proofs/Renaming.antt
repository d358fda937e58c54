-- The six steps do not care what a label is: owners renamed by f, which gives no two the same name, give renamed turns, table and moves.
-- So what is proved of rows holds of the ids of the devices.
--
--   turn_as f, move_as f      a turn and a move with both owners renamed
--
-- renaming: owned_rename, turns_rename, new_table_rename, moves_rename
use mathlib.Core.Path.{◌≡◌, refl, sym, ap, ◌∙◌}
use mathlib.Core.Bool.{Bool, true, false, cond}
use mathlib.Core.List.{List, [], ◌∷◌, map}
use Prim.Native.Nat.{ℕ, zero, suc, ◌+◌, ◌-◌}
use lib.Dec.{eqb}
use borrow.Author.Tests.{eqb-true, eqb-false, eq-eqb, ne_eqb}
use Rattle.slicing.specs.Runs.{Run, ◌of◌, owned, expand, take_points, drop_points, relabel, push, coalesce}
use Rattle.slicing.specs.SixSteps.{release, needs, Side, end, cut, Piece, kept, taken, less, walk, Turn, ◌⟶◌, new, same_turn, fill, turns, new_table, Move, move, moves_from, moves}
use Rattle.slicing.proofs.Runs.{relabel_append, relabel_relabel}
use Rattle.packed_runs.specs.Words.{present}
use Rattle.six_steps.proofs.Composition.{new_table_coalesce}
use Rattle.six_steps.proofs.EmptyPieces.{owned_present, needs_present, fill_points}

-- ---- runs

module _ {A B : Type 0} (g : A → B) where
  take_rename : (k : ℕ) (rs : List (Run A)) → take_points k (relabel g rs) ≡ relabel g (take_points k rs)
  take_rename k [] = refl
  take_rename k ((n of x) ∷ rs) = rw (take_rename (k - n) rs)

  drop_rename : (k : ℕ) (rs : List (Run A)) → drop_points k (relabel g rs) ≡ relabel g (drop_points k rs)
  drop_rename k [] = refl
  drop_rename k ((n of x) ∷ rs) = rw (drop_rename (k - n) rs)

  module _ (p : A → A → Bool) (q : B → B → Bool) (same : (x y : A) → q (g x) (g y) ≡ p x y) where
    push_rename : (n : ℕ) (x : A) (rs : List (Run A)) → push q n (g x) (relabel g rs) ≡ relabel g (push p n x rs)
    push_rename zero x rs = refl
    push_rename (suc n) x [] = refl
    push_rename (suc n) x ((m of y) ∷ rs) = rw (same x y) (go (p x y))
      where
        go : (b : Bool) → cond b ((suc n + m of g y) ∷ relabel g rs) ((suc n of g x) ∷ (m of g y) ∷ relabel g rs)
            ≡ relabel g (cond b ((suc n + m of y) ∷ rs) ((suc n of x) ∷ (m of y) ∷ rs))
        go true = refl
        go false = refl

    coalesce_rename : (rs : List (Run A)) → coalesce q (relabel g rs) ≡ relabel g (coalesce p rs)
    coalesce_rename [] = refl
    coalesce_rename ((n of x) ∷ rs) = rw (coalesce_rename rs) (push_rename n x (coalesce p rs))

-- ---- the six steps

abbrev mark_as : (ℕ → ℕ) → Piece → Piece
mark_as f (kept d) = kept (f d)
mark_as f (taken d) = taken (f d)

abbrev pub turn_as : (ℕ → ℕ) → Turn → Turn
turn_as f (a ⟶ b) = f a ⟶ f b

abbrev pub move_as : (ℕ → ℕ) → Move → Move
move_as f m = move m.start m.size (f m.from) (f m.to)

module _ (f : ℕ → ℕ) (apart : (x y : ℕ) → f x ≡ f y → x ≡ y) where
  eqb_rename : (x y : ℕ) → eqb (f x) (f y) ≡ eqb x y
  eqb_rename x y = go (eqb x y) refl
    where
      go : (b : Bool) → eqb x y ≡ b → eqb (f x) (f y) ≡ b
      go true e = eq-eqb (f x) (f y) (ap f (eqb-true x y e))
      go false e = ne_eqb (f x) (f y) (λ z. eqb-false x y e (apart x y z))

  pub owned_rename : (d : ℕ) (rs : List (Run ℕ)) → owned (f d) (relabel f rs) ≡ owned d rs
  owned_rename d [] = refl
  owned_rename d ((n of e) ∷ rs) = rw (eqb_rename d e, owned_rename d rs)

  -- the devices that `here` names have what `has` says of their rows
  needs_rename : (has here : List (Run ℕ)) → ((d : ℕ) → owned (f d) here ≡ owned d has) → (due : List (Run ℕ))
      → needs here (relabel f due) ≡ relabel f (needs has due)
  needs_rename has here h [] = refl
  needs_rename has here h ((t of d) ∷ due) = rw (h d, needs_rename has here h due)

  walk_rename : (r s : ℕ → ℕ) → ((d : ℕ) → s (f d) ≡ r d) → (flag : Side) (touch : Bool) (rs : List (Run ℕ))
      → walk s flag touch (relabel f rs) ≡ relabel (mark_as f) (walk r flag touch rs)
  walk_rename r s h flag touch [] = refl
  walk_rename r s h flag touch ((n of d) ∷ rs) =
      let c = cut (r d) n flag touch in
      rw (
        h d,
        walk_rename (less r d c.gap) (less s (f d) c.gap) (λ e. rw (h e, eqb_rename e d)) c.flag c.touch rs,
      )

  fill_rename : (ps : List (Run Piece)) (q : List (Run ℕ)) → fill (relabel (mark_as f) ps) (relabel f q) ≡ relabel (turn_as f) (fill ps q)
  fill_rename [] q = refl
  fill_rename ((n of kept d) ∷ ps) q = rw (fill_rename ps q)
  fill_rename ((n of taken d) ∷ ps) q =
      rw (
        take_rename f n q,
        drop_rename f n q,
        fill_rename ps (drop_points n q),
        relabel_append (turn_as f) (relabel (λ e. d ⟶ e) (take_points n q)) (fill ps (drop_points n q)),
        relabel_relabel f (λ e. f d ⟶ e) (take_points n q),
        relabel_relabel (λ e. d ⟶ e) (turn_as f) (take_points n q),
      )

  new_rename : (ts : List (Run Turn)) → relabel new (relabel (turn_as f) ts) ≡ relabel f (relabel new ts)
  new_rename [] = refl
  new_rename ((n of (a ⟶ b)) ∷ ts) = rw (new_rename ts)

  same_rename : (s t : Turn) → same_turn (turn_as f s) (turn_as f t) ≡ same_turn s t
  same_rename (a ⟶ b) (c ⟶ d) = rw (eqb_rename a c, eqb_rename b d)

  moves_from_rename : (p : ℕ) (ts : List (Run Turn)) → moves_from p (relabel (turn_as f) ts) ≡ map (move_as f) (moves_from p ts)
  moves_from_rename p [] = refl
  moves_from_rename p ((n of (a ⟶ b)) ∷ ts) = rw (eqb_rename a b, moves_from_rename (p + n) ts) (go (eqb a b))
    where
      go : (t : Bool) → cond t (map (move_as f) (moves_from (p + n) ts)) (move p n (f a) (f b) ∷ map (move_as f) (moves_from (p + n) ts))
          ≡ map (move_as f) (cond t (moves_from (p + n) ts) (move p n a b ∷ moves_from (p + n) ts))
      go true = refl
      go false = refl

  -- the table renamed, what each device has (`here`) and what each is to have (`there`, in the order of `due`, but for devices with nothing)
  module _ (table has due here there : List (Run ℕ)) (h : (d : ℕ) → owned (f d) here ≡ owned d has) (p : present there ≡ present (relabel f due)) where
    release_rename : (d : ℕ) → release here there (f d) ≡ release has due d
    release_rename d =
        rw (h d, ← owned_present (f d) there, p, owned_present (f d) (relabel f due), owned_rename d due)

    queue_rename : expand (needs here there) ≡ expand (relabel f (needs has due))
    queue_rename =
        sym (needs_present here there) ∙ ap (λ r. expand (needs here r)) p ∙ needs_present here (relabel f due)
        ∙ ap expand (needs_rename has here h due)

    pub turns_rename : coalesce same_turn (turns (relabel f table) here there) ≡ relabel (turn_as f) (coalesce same_turn (turns table has due))
    unfolding turns
    turns_rename =
        let ps = walk (release has due) end false table in
        ap (λ r. coalesce same_turn (fill r (needs here there))) (walk_rename (release has due) (release here there) release_rename end false table)
        ∙ fill_points (relabel (mark_as f) ps) (needs here there) (relabel f (needs has due)) queue_rename
        ∙ ap (coalesce same_turn) (fill_rename ps (needs has due))
        ∙ coalesce_rename (turn_as f) same_turn same_turn same_rename (fill ps (needs has due))

    pub new_table_rename : new_table (turns (relabel f table) here there) ≡ relabel f (new_table (turns table has due))
    new_table_rename =
        let ts = coalesce same_turn (turns table has due) in
        sym (new_table_coalesce (turns (relabel f table) here there))
        ∙ ap new_table turns_rename
        ∙ ap (coalesce eqb) (new_rename ts)
        ∙ coalesce_rename f eqb eqb eqb_rename (relabel new ts)
        ∙ ap (relabel f) (new_table_coalesce (turns table has due))

    pub moves_rename : moves (turns (relabel f table) here there) ≡ map (move_as f) (moves (turns table has due))
    moves_rename = ap (moves_from 0) turns_rename ∙ moves_from_rename 0 (coalesce same_turn (turns table has due))
