-- The stages, one after the other, are the six steps of the rules: n devices that have `has` and are to have `due`, and a table of q
-- intervals of theirs.
--
--   Pieced table has due q n queue words p     the queue has their needs, and `words` the p pieces of the table
--   Turned table has due q n words t           `words` has the t turns
--
-- walk: walk_agree (a walk depends on what the owners of the table release), total_walk
-- new_table_coalesce     turns make one table, joined or not
-- Pieced: pieced, pieced_enough and pieced_total (what `fill` asks), pieced_turned (what it gives)
-- Turned: turned_moved, turned_total, turned_owners, turned_table, turned_labels (what `new_table` gives)
use mathlib.Core.Path.{◌≡◌, refl, sym, ap, ◌∙◌}
use mathlib.Core.Bool.{Bool, false}
use mathlib.Core.List.{List, map}
use Prim.Native.Nat.{ℕ, zero, suc, ◌+◌, ◌-◌, ◌*◌, ◌/◌, ◌%◌, ◌≤◌, ◌<◌}
use native.Mathlib.Omega.{arith}
use lib.Dec.{eqb}
use lib.ListN.{length}
use borrow.Author.Tests.{eqb-true, eq-eqb}
use Rattle.slicing.specs.Runs.{Run, one, total, owned, expand, count, relabel, coalesce}
use Rattle.slicing.specs.SixSteps.{Side, end, cut, less, walk, Piece, Turn, old, new, same_turn, fill, needs, reductions, turns, new_table, moves}
use Rattle.slicing.specs.SixSteps.{release as releaseOf, points as points_of}
use Rattle.slicing.proofs.Runs.{length_expand, total_relabel, total_coalesce, count_expand, relabel_relabel, relabel_same, expand_relabel, expand_coalesce, expand_table, coalesced_coalesce, coalesced_table, coalesce_unique, owned_coalesce}
use Rattle.slicing.proofs.Moves.{same_turn_lem, self_turn, points_moves}
use Rattle.slicing.proofs.SixSteps.{Balanced, total_needs, expand_old, total_turns, owned_new, changing_turns}
use Rattle.slicing.proofs.Walk.{holder, takens, expand_walk}
use Rattle.slicing_core.specs.Rows.{at}
use Rattle.packed_runs.specs.Words.{runs, by_row, pieces_of, piece_of, turn_of, turns_of, present, Labelled}
use Rattle.packed_runs.proofs.Words.{owned_outside}
use Rattle.six_steps.proofs.EmptyPieces.{total_present, takens_present, fill_present}
use Rattle.six_steps.proofs.Labels.{labels_below}

-- ---- the walk

walk_agree : (xs : List ℕ) (k : ℕ) (r s : ℕ → ℕ) (flag : Side) (touch : Bool) (i m : ℕ)
    → ((j : ℕ) → i ≤ j → j < i + m → at xs j % 65536 < k) → ((d : ℕ) → d < k → r d ≡ s d) → walk r flag touch (runs xs i m) ≡ walk s flag touch (runs xs i m)
walk_agree xs k r s flag touch i zero l h = refl
walk_agree xs k r s flag touch i (suc m) l h =
    let d = at xs i % 65536 in
    let e : r d ≡ s d = h d (l i (omega arith) (omega arith)) in
    let c = cut (s d) (at xs i / 65536) flag touch in
    rw (
      e,
      walk_agree xs k (less r d c.gap) (less s d c.gap) c.flag c.touch (suc i) m (λ j a b. l j (omega arith) (omega arith))
          (λ x a. ap (λ z. z - one (eqb x d) * c.gap) (h x a)),
    )

total_walk : (r : ℕ → ℕ) (flag : Side) (touch : Bool) (rs : List (Run ℕ)) → total (walk r flag touch rs) ≡ total rs
total_walk r flag touch rs =
    sym (total_relabel holder (walk r flag touch rs)) ∙ sym (length_expand (relabel holder (walk r flag touch rs)))
    ∙ ap length (expand_walk r flag touch rs) ∙ length_expand rs

-- ---- coalesced turns

expand_joined : (f : Turn → ℕ) (ts : List (Run Turn)) → expand (relabel f (coalesce same_turn ts)) ≡ expand (relabel f ts)
expand_joined f ts =
    expand_relabel f (coalesce same_turn ts) ∙ ap (map f) (expand_coalesce same_turn same_turn_lem self_turn ts) ∙ sym (expand_relabel f ts)

owned_joined : (f : Turn → ℕ) (ts : List (Run Turn)) (d : ℕ) → owned d (relabel f (coalesce same_turn ts)) ≡ owned d (relabel f ts)
owned_joined f ts d = sym (count_expand d (relabel f (coalesce same_turn ts))) ∙ ap (count d) (expand_joined f ts) ∙ count_expand d (relabel f ts)

pub new_table_coalesce : (ts : List (Run Turn)) → new_table (coalesce same_turn ts) ≡ new_table ts
new_table_coalesce ts =
    coalesce_unique eqb eqb-true (λ x. eq-eqb x x refl) (relabel new (coalesce same_turn ts)) (new_table ts) (coalesced_table (relabel new ts))
    (expand_joined new ts ∙ sym (expand_table (relabel new ts)))

-- ---- the stages

module _ (table has due : List ℕ) (q n : ℕ) where
  abbrev has_rows : List (Run ℕ)
  has_rows = by_row has 0 n

  abbrev due_rows : List (Run ℕ)
  due_rows = by_row due 0 n

  abbrev table_runs : List (Run ℕ)
  table_runs = runs table 0 q

  abbrev all_turns : List (Run Turn)
  all_turns = turns table_runs has_rows due_rows

  abbrev pieces : List (Run Piece)
  pieces = walk (releaseOf has_rows due_rows) end false table_runs

  pub record Pieced (queue words : List ℕ) (p : ℕ) : Type 0 where
    pub balanced : Balanced table_runs has_rows due_rows
    pub queued : runs queue 0 n ≡ needs has_rows due_rows
    pub written : pieces_of words 0 p ≡ present pieces

  pub record Turned (words : List ℕ) (t : ℕ) : Type 0 where
    pub balanced : Balanced table_runs has_rows due_rows
    pub filled : turns_of words 0 t ≡ coalesce same_turn all_turns

  pub pieced : (release queue words : List ℕ) (p : ℕ) → Labelled n table q → Balanced table_runs has_rows due_rows
      → ((d : ℕ) → d < n → at release d ≡ releaseOf has_rows due_rows d) → runs queue 0 n ≡ needs has_rows due_rows
      → pieces_of words 0 p ≡ present (walk (at release) end false table_runs) → Pieced queue words p
  pieced release queue words p l b r e w = record {
    balanced = b;
    queued = e;
    written = w ∙ ap present (walk_agree table n (at release) (releaseOf has_rows due_rows) end false 0 q (λ j a b. l j (omega arith)) r);
  }

module _ {table has due : List ℕ} {q n : ℕ} {queue words : List ℕ} {p : ℕ} (w : Pieced table has due q n queue words p) where
  abbrev ps : List (Run Piece)
  ps = pieces table has due q n

  pub pieced_enough : total (takens (pieces_of words 0 p)) ≤ total (runs queue 0 n)
  pieced_enough =
      rw (w.written, w.queued, takens_present ps) (omega (arith, total_needs (runs table 0 q) (by_row has 0 n) (by_row due 0 n) w.balanced))

  pub pieced_total : total (runs words 0 p) ≡ total (runs table 0 q)
  pieced_total =
      sym (total_relabel piece_of (runs words 0 p)) ∙ ap total w.written ∙ total_present ps
      ∙ total_walk (releaseOf (by_row has 0 n) (by_row due 0 n)) end false (runs table 0 q)

  pub pieced_turned : (work : List ℕ) (t : ℕ) → turns_of work 0 t ≡ coalesce same_turn (fill (pieces_of words 0 p) (runs queue 0 n))
      → Turned table has due q n work t
  unfolding turns
  pieced_turned work t e = record {
    balanced = w.balanced;
    filled = (rw (w.written, w.queued) at e) ∙ fill_present ps (needs (by_row has 0 n) (by_row due 0 n));
  }

module _ {table has due : List ℕ} {q n : ℕ} {words : List ℕ} {t : ℕ} (w : Turned table has due q n words t) where
  abbrev ts : List (Run Turn)
  ts = all_turns table has due q n

  pub turned_moved : reductions (by_row has 0 n) (by_row due 0 n) ≡ points_of (moves ts)
  turned_moved = sym (changing_turns (runs table 0 q) (by_row has 0 n) (by_row due 0 n) w.balanced) ∙ sym (points_moves ts)

  pub turned_total : total (runs words 0 t) ≡ total (runs table 0 q)
  turned_total =
      sym (total_relabel turn_of (runs words 0 t)) ∙ ap total w.filled ∙ total_coalesce same_turn same_turn_lem self_turn ts
      ∙ total_turns (runs table 0 q) (by_row has 0 n) (by_row due 0 n) w.balanced

  -- no row from n on has a point, before or after
  old_none : (d : ℕ) → n ≤ d → owned d (relabel old ts) ≡ 0
  old_none d l =
      sym (count_expand d (relabel old ts)) ∙ ap (count d) (expand_old (runs table 0 q) (by_row has 0 n) (by_row due 0 n) w.balanced)
      ∙ count_expand d (runs table 0 q) ∙ w.balanced.held d ∙ owned_outside has d 0 n (λ j a b e. omega arith)

  new_none : (d : ℕ) → n ≤ d → owned d (relabel new ts) ≡ 0
  new_none d l = owned_new (runs table 0 q) (by_row has 0 n) (by_row due 0 n) w.balanced d ∙ owned_outside due d 0 n (λ j a b e. omega arith)

  owners_below : (f : Turn → ℕ) → ((d : ℕ) → n ≤ d → owned d (relabel f ts) ≡ 0) → (i : ℕ) → i < t → f (turn_of (at words i % 65536)) < n
  owners_below f h =
      labels_below same_turn turn_of (λ x. f (turn_of x)) words n t (rw w.filled (coalesced_coalesce same_turn same_turn_lem self_turn ts))
      (λ d l. ap (owned d) (sym (relabel_relabel turn_of f (runs words 0 t))) ∙ ap (λ r. owned d (relabel f r)) w.filled ∙ owned_joined f ts d ∙ h d l)

  pub turned_owners : (i : ℕ) → i < t → (at words i % 65536 / 256 < n) × (at words i % 65536 % 256 < n)
  turned_owners i h = (owners_below old old_none i h, owners_below new new_none i h)

  module _ (next : List ℕ) (m : ℕ) (joined : runs next 0 m ≡ coalesce eqb (relabel new (turns_of words 0 t))) where
    pub turned_table : runs next 0 m ≡ new_table ts
    turned_table =
        joined ∙ ap new_table w.filled ∙ new_table_coalesce ts

    pub turned_labels : Labelled n next m
    turned_labels =
        labels_below eqb (λ x. x) (λ x. x) next n m (rw (relabel_same (runs next 0 m), turned_table) (coalesced_table (relabel new ts)))
        (λ d l. rw (relabel_same (runs next 0 m), turned_table) (owned_coalesce d (relabel new ts) ∙ new_none d l))
