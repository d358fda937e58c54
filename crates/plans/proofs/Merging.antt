-- The rows that take part in a change: the six steps on them are the six steps of the rules on the devices that the rows name.
--
--   table_by, has_by, due_by      the table of the rows, what each has and what each is to have
--   turns_by, turns_here         the turns by row, and the rules' by id
--
-- devices before and after: merged_had, merged_some
-- what `steps` asks: merged_few, merged_points, merged_balanced, merged_has, merged_due
-- the rules' table and moves, by what `steps` gives: named_table, named_moves
use mathlib.Core.Path.{◌≡◌, refl, sym, ap, ◌∙◌}
use mathlib.Core.Bool.{Bool, true, false, cond}
use mathlib.Core.List.{List, ◌∷◌, map}
use Prim.Native.Nat.{ℕ, zero, suc, ◌+◌, ◌/◌, ◌%◌, ◌^◌, ◌≤◌, ◌<◌}
use native.Mathlib.Omega.{arith}
use lib.Dec.{eqb, ltb}
use lib.ListN.{length}
use borrow.Author.Tests.{eqb-true, ne_eqb, ltb-true, ltb-false}
use Rattle.slicing.specs.Runs.{Run, one, total, owned, count, relabel}
use Rattle.slicing.specs.ShareRule.{shares}
use Rattle.slicing.specs.SixSteps.{Turn, turns, new_table, Move, move, moves_from, moves}
use Rattle.slicing.proofs.Counting.{Distinct}
use Rattle.slicing.proofs.Runs.{owners, total_relabel, total_owned}
use Rattle.slicing.proofs.ShareRule.{total_shares}
use Rattle.slicing.proofs.SixSteps.{Balanced}
use Rattle.slicing_core.specs.Rows.{at}
use Rattle.slicing_core.specs.Stages.{Below}
use Rattle.slicing_core.proofs.OwnerRows.{owned_le}
use Rattle.slicing_core.proofs.Rows.{length_device_rows}
use Rattle.packed_runs.specs.Words.{runs, by_row, turns_of, present}
use Rattle.packed_runs.proofs.Words.{owned_by_row, owned_outside}
use Rattle.six_steps.specs.Steps.{Stepped}
use Rattle.six_steps.specs.declared.steps.Done.{Done}
use Rattle.six_steps.proofs.EmptyPieces.{total_present}
use Rattle.six_steps.proofs.Renaming.{move_as, new_table_rename, moves_rename}
use Rattle.opened.specs.OpenPools.{devices_in}
use Rattle.plans.specs.Plans.{Merged, state_by}
use Rattle.opened.specs.declared.Opened.{Opened}
use Rattle.plans.specs.declared.Rows.{Rows}
use Rattle.opened.proofs.RowNames.{length_relabel, length_runs, owned_labels, named, named_row, named_apart, relabel_named, by_row_named, owned_names}

-- ---- rows

count_before : (xs : List ℕ) (d i n : ℕ) → d < i → count d (owners (by_row xs i n)) ≡ 0
count_before xs d i zero h = refl
count_before xs d i (suc n) h = rw (ne_eqb d i (λ e. omega arith)) (omega (arith, count_before xs d (suc i) n (omega arith)))

distinct_by_row : (xs : List ℕ) (i n : ℕ) → Distinct (owners (by_row xs i n))
distinct_by_row xs i zero d = omega arith
distinct_by_row xs i (suc n) d = go (eqb d i) refl (distinct_by_row xs (suc i) n d)
  where
    go : (t : Bool) → eqb d i ≡ t → count d (owners (by_row xs (suc i) n)) ≤ 1 → one t + count d (owners (by_row xs (suc i) n)) ≤ 1
    go true e ih = omega (arith, count_before xs d (suc i) n (omega (arith, eqb-true d i e)))
    go false e ih = omega arith

-- two renamings that agree on the rows below k, of which the turns are
moves_same : (f g : ℕ → ℕ) (k : ℕ) → ((x : ℕ) → x < k → f x ≡ g x) → (xs : List ℕ) (i n p : ℕ)
    → ((j : ℕ) → i ≤ j → j < i + n → (at xs j % 65536 / 256 < k) × (at xs j % 65536 % 256 < k))
    → map (move_as f) (moves_from p (turns_of xs i n)) ≡ map (move_as g) (moves_from p (turns_of xs i n))
moves_same f g k h xs i zero p l = refl
moves_same f g k h xs i (suc n) p l =
    go (eqb old new) (moves_same f g k h xs (suc i) n (p + at xs i / 65536) (λ j a b. l j (omega arith) (omega arith)))
  where
    old : ℕ
    old = at xs i % 65536 / 256

    new : ℕ
    new = at xs i % 65536 % 256

    rest : List Move
    rest = moves_from (p + at xs i / 65536) (turns_of xs (suc i) n)

    go : (t : Bool) → map (move_as f) rest ≡ map (move_as g) rest
        → map (move_as f) (cond t rest (move p (at xs i / 65536) old new ∷ rest)) ≡ map (move_as g) (cond t rest (move p (at xs i / 65536) old new ∷ rest))
    go true ih = ih
    go false ih = rw (h old (l i (omega arith) (omega arith)).0, h new (l i (omega arith) (omega arith)).1, ih)

-- ---- what the six steps start from

abbrev pub table_by : Opened → List ℕ → List (Run ℕ)
table_by o work = runs work 0 o.intervals

abbrev pub has_by : Rows → List (Run ℕ)
has_by rs = by_row rs.has 0 rs.count

abbrev pub due_by : Rows → List (Run ℕ)
due_by rs = by_row rs.due 0 rs.count

abbrev pub turns_by : Opened → Rows → List ℕ → List (Run Turn)
turns_by o rs work = turns (table_by o work) (has_by rs) (due_by rs)

abbrev pub turns_here : Opened → Opened → Rows → List ℕ → List (Run Turn)
turns_here o e rs work = turns (state_by o rs work).table (shares o.range (devices_in o)) (shares o.range (devices_in e))

module _ {o e : Opened} {rs : Rows} {work : List ℕ} (m : Merged o e rs work) where
  pub merged_had : 1 ≤ length (devices_in o)
  merged_had = omega (arith, m.had, length_device_rows o.ids o.capacities 0 o.devices)

  pub merged_some : 1 ≤ length (devices_in e)
  merged_some = omega (arith, m.some, length_device_rows e.ids e.capacities 0 e.devices)

  pub merged_few : o.intervals ≤ 4096
  merged_few =
      omega (
        arith,
        m.valid.fits,
        m.valid.room_most,
        length_relabel (at rs.names) (table_by o work),
        length_runs work 0 o.intervals,
      )

  pub merged_points : total (table_by o work) ≡ o.range
  merged_points = sym (total_relabel (at rs.names) (table_by o work)) ∙ m.valid.covers merged_had

  merged_held : (d : ℕ) → owned d (table_by o work) ≡ owned d (has_by rs)
  merged_held d = go (ltb d rs.count) refl
    where
      go : (t : Bool) → ltb d rs.count ≡ t → owned d (table_by o work) ≡ owned d (has_by rs)
      go true x =
          let l : d < rs.count = ltb-true d rs.count x in
          sym (m.held d l) ∙ sym (owned_by_row rs.has d 0 rs.count (omega arith) (omega arith))
      go false x =
          let l : rs.count ≤ d = ltb-false d rs.count x in
          owned_labels d work 0 o.intervals (λ j a b. omega (arith, m.labels j (omega arith)))
          ∙ sym (owned_outside rs.has d 0 rs.count (λ j a b k. omega arith))

  -- the rows are to have the shares of the devices afterwards
  merged_present : present (shares o.range (devices_in e)) ≡ present (relabel (at rs.names) (due_by rs))
  merged_present = ap (λ k. present (shares k (devices_in e))) (sym m.range) ∙ sym m.due

  total_due : total (due_by rs) ≡ o.range
  total_due =
      sym (total_relabel (at rs.names) (due_by rs)) ∙ sym (total_present (relabel (at rs.names) (due_by rs)))
      ∙ ap total (sym merged_present) ∙ total_present (shares o.range (devices_in e))
      ∙ total_shares o.range (devices_in e) m.rising merged_some

  pub merged_balanced : Balanced (table_by o work) (has_by rs) (due_by rs)
  merged_balanced = record {
    has_once = distinct_by_row rs.has 0 rs.count;
    due_once = distinct_by_row rs.due 0 rs.count;
    held = merged_held;
    same = sym (total_owned (table_by o work) (has_by rs) merged_held) ∙ merged_points ∙ sym total_due;
  }

  pub merged_has : Below (2 ^ 48) rs.has rs.count
  merged_has i l = omega (arith, m.held i l, owned_le i (table_by o work), merged_points, m.valid.most)

  pub merged_due : Below (2 ^ 48) rs.due rs.count
  merged_due i l =
      omega (arith, owned_by_row rs.due i 0 rs.count (omega arith) (omega arith), owned_le i (due_by rs), total_due, m.valid.most)

  -- ---- names

  abbrev name : ℕ → ℕ
  name = named rs.names rs.count

  name_apart : (x y : ℕ) → name x ≡ name y → x ≡ y
  name_apart = named_apart rs.names rs.count m.ascending m.known

  name_table : (state_by o rs work).table ≡ relabel name (table_by o work)
  name_table = relabel_named rs.names rs.count m.ascending m.known work o.intervals m.labels

  -- the devices have what the rows have
  name_has : (d : ℕ) → owned (name d) (shares o.range (devices_in o)) ≡ owned d (has_by rs)
  name_has d =
      sym (m.valid.held merged_had (name d))
      ∙ owned_names rs.names rs.count m.ascending m.known work o.intervals m.labels d
      ∙ merged_held d

  name_due : present (shares o.range (devices_in e)) ≡ present (relabel name (due_by rs))
  name_due = merged_present ∙ ap present (by_row_named rs.names rs.count m.ascending m.known rs.due)

  abbrev here : List (Run ℕ)
  here = shares o.range (devices_in o)

  abbrev there : List (Run ℕ)
  there = shares o.range (devices_in e)

  -- what the steps made of the rows: their labels are rows, so that the array of names gives each its id
  module _ {next turned : List ℕ} {r : Done} (d : Stepped (table_by o work) (has_by rs) (due_by rs) rs.count turned next r) where
    pub named_table : new_table (turns_here o e rs work) ≡ relabel (at rs.names) (runs next 0 r.intervals)
    named_table =
        ap (λ t. new_table (turns t here there)) name_table
        ∙ new_table_rename name name_apart (table_by o work) (has_by rs) (due_by rs) here there name_has name_due
        ∙ ap (relabel name) (sym d.renewed)
        ∙ sym (relabel_named rs.names rs.count m.ascending m.known next r.intervals d.labels)

    pub named_moves : moves (turns_here o e rs work) ≡ map (move_as (at rs.names)) (moves_from 0 (turns_of turned 0 r.turns))
    named_moves =
        ap (λ t. moves (turns t here there)) name_table
        ∙ moves_rename name name_apart (table_by o work) (has_by rs) (due_by rs) here there name_has name_due
        ∙ ap (λ t. map (move_as name) (moves_from 0 t)) (sym d.turned)
        ∙ moves_same name (at rs.names) rs.count (named_row rs.names rs.count) turned 0 r.turns 0 (λ j a b. d.owners j (omega arith))
