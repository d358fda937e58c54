-- Laws of a table that gives each device its due: what `dealt` needs.
--
-- runs of rows: owner_known (an owner of them is one of the ids)
-- Rowed: rows_labels and rows_points (what `held` asks), rows_known, has_row (what a row has, its device has of the intervals)
-- Dealt: dealt_refused (the intervals are no runs of rows), dealt_rows (they are: each row has its due, or not)
use mathlib.Core.Path.{◌≡◌, refl, sym, ap, ◌∙◌}
use mathlib.Core.Bool.{Bool, true, false}
use mathlib.Core.List.{List, []}
use Prim.Native.Nat.{ℕ, zero, suc, ◌+◌, ◌*◌, ◌/◌, ◌%◌, ◌≤◌, ◌<◌, ◌^◌}
use native.Mathlib.Omega.{arith}
use lib.Dec.{eqb}
use borrow.Author.Tests.{eqb-true}
use Rattle.slicing.specs.Devices.{present}
use Rattle.slicing.specs.Runs.{one, total, owned, relabel}
use Rattle.slicing.proofs.Runs.{total_relabel}
use Rattle.slicing_core.specs.Rows.{at, device_rows, table_rows}
use Rattle.slicing_core.specs.Stages.{Below, Ascending, Decides}
use Rattle.slicing_core.proofs.DeviceRows.{position_present}
use Rattle.packed_runs.specs.Words.{runs, Labelled}
use Rattle.opened.proofs.RowNames.{named_row, owned_names}
use Rattle.pool_checks.specs.Tables.{Rowed, NotRowed, Dealt}
use Rattle.pool_checks.proofs.Deciding.{decides_iff}

owner_known : (d : ℕ) (ids capacities : List ℕ) (n : ℕ) (xs : List ℕ) (i q : ℕ) → ((j : ℕ) → i ≤ j → j < i + q → at xs j % 65536 < n)
    → 1 ≤ owned d (relabel (at ids) (runs xs i q)) → present d (device_rows ids capacities 0 n) ≡ true
owner_known d ids capacities n xs i zero l h = absurd (omega arith)
owner_known d ids capacities n xs i (suc q) l h =
    go (eqb d (at ids (at xs i % 65536))) refl h (owner_known d ids capacities n xs (suc i) q (λ j a b. l j (omega arith) (omega arith)))
  where
    go : (t : Bool) → eqb d (at ids (at xs i % 65536)) ≡ t → 1 ≤ one t * (at xs i / 65536) + owned d (relabel (at ids) (runs xs (suc i) q))
        → (1 ≤ owned d (relabel (at ids) (runs xs (suc i) q)) → present d (device_rows ids capacities 0 n) ≡ true)
        → present d (device_rows ids capacities 0 n) ≡ true
    go true e k ih =
        position_present ids capacities n d (at xs i % 65536) (l i (omega arith) (omega arith)) (sym (eqb-true d (at ids (at xs i % 65536)) e))
    go false e k ih = ih (omega arith)

module _ {p o : List ℕ} {q R : ℕ} {ids : List ℕ} {n : ℕ} {table : List ℕ} (r : Rowed p o q R ids n table) where
  pub rows_labels : n ≤ 256 → Labelled 256 table q
  rows_labels few i l = omega (arith, r.labels i l)

  pub rows_points : R ≤ 2 ^ 32 → total (runs table 0 q) < 2 ^ 48
  rows_points most = omega (arith, total_relabel (at ids) (runs table 0 q), ap total r.same, r.covers)

  rows_known : (capacities : List ℕ) (d : ℕ) → 1 ≤ owned d (table_rows p o R 0 q) → present d (device_rows ids capacities 0 n) ≡ true
  rows_known capacities d h = owner_known d ids capacities n table 0 q (λ j a b. r.labels j (omega arith)) (rw r.same h)

  module _ (ascending : Ascending ids n) (below : Below 65536 ids n) (has : List ℕ)
      (h : (i : ℕ) → i < n → at has i ≡ owned i (runs table 0 q)) where
    has_row : (i : ℕ) → i < n → at has i ≡ owned (at ids i) (table_rows p o R 0 q)
    has_row i l =
        h i l ∙ sym (owned_names ids n ascending below table q r.labels i) ∙ ap (λ x. owned x (relabel (at ids) (runs table 0 q))) (named_row ids n i l)
        ∙ ap (owned (at ids i)) r.same

    pub dealt_rows : (due : List ℕ) (b : Bool) → Decides b ((i : ℕ) → i < n → at has i ≡ at due i) → Decides b (Dealt p o q R ids n due)
    dealt_rows due b =
        decides_iff {P = (i : ℕ) → i < n → at has i ≡ at due i} {Q = Dealt p o q R ids n due} b
        (λ s. record { coalesced = r.coalesced; covers = r.covers; known = rows_known; held = λ i l. sym (has_row i l) ∙ s i l })
        (λ d i l. has_row i l ∙ d.held i l)

pub dealt_refused : {p o : List ℕ} {q R : ℕ} {ids : List ℕ} {n : ℕ} {due : List ℕ} → NotRowed p o q R ids n → Dealt p o q R ids n due → ⊥
dealt_refused f d = f [] d.coalesced d.covers (d.known [])
