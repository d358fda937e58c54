-- Readings that an opened pool holds.
--
--   Ready o table work next       an opened pool with its table, and two more arrays: what `advance` asks
--
-- Open: state_renewed, open_renewed (another array with the same runs)
-- before the first line: start_ready, start_reading
use mathlib.Core.Path.{◌≡◌, sym, ap, ◌∙◌, subst}
use mathlib.Core.Bool.{false}
use mathlib.Core.List.{List}
use Prim.Native.Nat.{ℕ}
use native.Mathlib.Omega.{arith}
use lib.ListN.{length}
use Rattle.slicing.specs.Changes.{State, fresh}
use Rattle.slicing.specs.Runs.{owned, relabel}
use Rattle.slicing.specs.Validity.{Valid}
use Rattle.slicing.proofs.Runs.{relabel_same}
use Rattle.slicing_core.specs.Rows.{at}
use Rattle.packed_runs.specs.Words.{runs, room}
use Rattle.opened.specs.declared.Opened.{Opened}
use Rattle.opened.specs.OpenPools.{state_with, state_in, Open}
use Rattle.opened.proofs.RowNames.{label_at}
use Rattle.history_steps.specs.Advances.{reading_in}
use Rattle.history_steps.specs.Steps.{start}

module _ (o : Opened) (next table : List ℕ) (e : runs table 0 o.intervals ≡ runs next 0 o.intervals) where
  pub state_renewed : state_in o table ≡ state_in o next
  state_renewed = ap (λ rs. state_with o (relabel (at o.ids) rs)) e

  pub open_renewed : length table ≡ room → Open o next → Open o table
  open_renewed l w = record {
    valid = subst Valid (sym state_renewed) w.valid;
    labels = λ i h.
        let same = label_at (λ x. x) table next 0 o.intervals (e ∙ sym (relabel_same (runs next 0 o.intervals))) i (omega arith) (omega arith) in
        omega (arith, w.labels i h, same);
    held = λ i h. w.held i h ∙ ap (owned i) (sym e);
    ids_size = w.ids_size;
    capacities_size = w.capacities_size;
    has_size = w.has_size;
    table_size = l;
  }

pub record Ready (o : Opened) (table work next : List ℕ) : Type 0 where
  pub opened : Open o table
  pub work_size : length work ≡ room
  pub next_size : length next ≡ room

-- a pool without devices, with its table in an array
module _ (o : Opened) (f : (table : List ℕ) → length table ≡ room → Open o table × (state_in o table ≡ fresh 1 1)) (table : List ℕ) (t : length table ≡ room) where
  pub start_ready : {work next : List ℕ} → length work ≡ room → length next ≡ room → Ready o table work next
  start_ready w n = record { opened = (f table t).0; work_size = w; next_size = n }

  pub start_reading : reading_in false o table ≡ start
  start_reading = ap (λ (s : State). record { begun = false; pool = s }) (f table t).1
