-- The table after a change: the new table of the rows, with the row that goes taken out, is the rules' new table, and an opened pool's.
--
-- next_stays      no run of the new table has the row that goes
-- next_table      by id it is the rules' new table
-- next_labels     its rows are those of the devices afterwards
-- next_held       what each of them has is what the table gives it
use mathlib.Core.Path.{◌≡◌, sym, ap, ◌∙◌}
use mathlib.Core.List.{List}
use Prim.Native.Nat.{ℕ, ◌%◌, ◌<◌}
use native.Mathlib.Omega.{arith}
use lib.Dec.{eqb}
use Rattle.slicing.specs.Runs.{owned, relabel, Coalesced}
use Rattle.slicing.specs.ShareRule.{shares}
use Rattle.slicing.specs.SixSteps.{new, new_table}
use Rattle.slicing.proofs.Changes.{balanced}
use Rattle.slicing.proofs.Runs.{relabel_relabel, relabel_same, coalesced_table}
use Rattle.slicing.proofs.SixSteps.{owned_new_table}
use Rattle.slicing_core.specs.Rows.{at}
use Rattle.slicing_core.proofs.DeviceRows.{ascending_rising, below_rising}
use Rattle.packed_runs.specs.Words.{runs, Labelled}
use Rattle.packed_runs.proofs.Words.{owned_by_row}
use Rattle.six_steps.specs.Steps.{Stepped}
use Rattle.six_steps.specs.declared.steps.Done.{Done}
use Rattle.six_steps.proofs.Labels.{label_owned}
use Rattle.plans.specs.Labels.{lowered}
use Rattle.opened.specs.OpenPools.{devices_in}
use Rattle.plans.specs.Plans.{Merged, state_by}
use Rattle.opened.specs.declared.Opened.{Opened}
use Rattle.plans.specs.declared.Rows.{Rows}
use Rattle.plans.proofs.Merging.{table_by, has_by, due_by, turns_by, turns_here, merged_had, merged_some, merged_balanced, named_table}
use Rattle.opened.proofs.RowNames.{relabel_runs, label_at, named, owned_names, owned_rows}

module _ {o e : Opened} {rs : Rows} {work : List ℕ} (m : Merged o e rs work) {turned next : List ℕ} {r : Done}
    (d : Stepped (table_by o work) (has_by rs) (due_by rs) rs.count turned next r) where
  abbrev joined : Coalesced eqb (relabel (λ x. x) (runs next 0 r.intervals))
  joined = rw (relabel_same (runs next 0 r.intervals), d.renewed) (coalesced_table (relabel new (turns_by o rs work)))

  next_stays : (j : ℕ) → j < r.intervals → at next j % 65536 ≡ rs.gone → ⊥
  next_stays j l z =
      let g : rs.gone < rs.count = omega (arith, d.labels j l) in
      omega (
        arith,
        ap (λ x. owned x (runs next 0 r.intervals)) z,
        ap (owned (at next j % 65536)) (relabel_same (runs next 0 r.intervals)),
        label_owned eqb (λ x. x) (λ x. x) next 0 r.intervals joined j (omega arith) (omega arith),
        ap (owned rs.gone) d.renewed,
        owned_new_table (table_by o work) (has_by rs) (due_by rs) (merged_balanced m) rs.gone,
        owned_by_row rs.due rs.gone 0 rs.count (omega arith) (omega arith),
        m.gone g,
      )

  module _ (last : List ℕ) (h : runs last 0 r.intervals ≡ relabel (lowered rs.gone) (runs next 0 r.intervals)) where
    pub next_table : relabel (at e.ids) (runs last 0 r.intervals) ≡ new_table (turns_here o e rs work)
    next_table =
        ap (relabel (at e.ids)) h
        ∙ relabel_relabel (lowered rs.gone) (at e.ids) (runs next 0 r.intervals)
        ∙ relabel_runs (λ x. at e.ids (lowered rs.gone x)) (at rs.names) next 0 r.intervals
        (λ j a b. (m.left (at next j % 65536) (d.labels j (omega arith)) (next_stays j (omega arith))).1)
        ∙ sym (named_table m d)

    pub next_labels : Labelled e.devices last r.intervals
    next_labels j l =
        rw (label_at (lowered rs.gone) last next 0 r.intervals h j (omega arith) (omega arith))
        (m.left (at next j % 65536) (d.labels j l) (next_stays j l)).0

    pub next_held : (i : ℕ) → i < e.devices → at e.has i ≡ owned i (runs last 0 r.intervals)
    next_held i l =
        let ids = e.ids in
        let n = e.devices in
        let rising = ascending_rising ids e.capacities n m.rising in
        let known = below_rising ids e.capacities n m.rising in
        let x = named ids n i in
        sym (owned_by_row e.has i 0 n (omega arith) (omega arith))
        ∙ sym (owned_rows ids n rising known e.has i)
        ∙ ap (owned x) m.shared
        ∙ ap (λ k. owned x (shares k (devices_in e))) m.range
        ∙ sym (owned_new_table (state_by o rs work).table (shares o.range (devices_in o)) (shares o.range (devices_in e))
        (balanced (state_by o rs work) m.valid (merged_had m) (devices_in e) m.rising (merged_some m)) x)
        ∙ ap (owned x) (sym next_table)
        ∙ owned_names ids n rising known last r.intervals next_labels i
