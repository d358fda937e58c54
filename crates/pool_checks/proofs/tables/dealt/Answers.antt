-- `pool_checks::tables::dealt` meets its contract: of intervals that are no runs of rows nothing is dealt; of the others `same` decides.
use mathlib.Core.Bool.{true, false}
use mathlib.Core.Path.{◌≡◌}
use Prim.Native.Nat.{ℕ, ◌<◌}
use native.Mathlib.Omega.{arith}
use Rattle.slicing.specs.Runs.{owned}
use Rattle.slicing_core.specs.Rows.{at}
use Rattle.packed_runs.specs.Words.{runs}
use Rattle.pool_checks.proofs.DealtTables.{rows_labels, rows_points, dealt_rows, dealt_refused}
use Rattle.pool_checks.proofs.tables.dealt.Goals as goal

pub returns-then-not-rows_of-clause-fair : goal.returns-then-not-rows_of-clause-fair
returns-then-not-rows_of-clause-fair c =
    dealt_refused (rw c.if-not-rows_of.true at c.rows_of.ensures.rows_of)

pub held-has-requires : goal.held-has-requires
held-has-requires c =
    let r = rw c.if-not-rows_of.false at c.rows_of.ensures.rows_of in
    let pre = c.requires in
    (pre.0, rows_labels r pre.3, rows_points r pre.2)

pub returns-then-not-same-clause-fair : goal.returns-then-not-same-clause-fair
returns-then-not-same-clause-fair c =
    let r = rw c.if-not-rows_of.false at c.rows_of.ensures.rows_of in
    let pre = c.requires in
    dealt_rows r pre.4 pre.5 c.held-has.result (λ i l. c.held-has.ensures.by_index i (omega (arith, pre.3))) _ false (rw c.if-not-same.true at c.same.ensures)

pub returns : goal.returns
returns c =
    let r = rw c.if-not-rows_of.false at c.rows_of.ensures.rows_of in
    let pre = c.requires in
    let has : (i : ℕ) → i < c.args.n → at c.held-has.result i ≡ owned i (runs c.rows_of.new.table 0 c.args.q) = λ i l. c.held-has.ensures.by_index i (omega (arith, pre.3)) in
    record {
      fair = dealt_rows r pre.4 pre.5 c.held-has.result has _ true (rw c.if-not-same.false at c.same.ensures);
      rows = (r, has, c.held-has.ensures.result_len);
      table_len = c.rows_of.ensures.table_len;
    }
