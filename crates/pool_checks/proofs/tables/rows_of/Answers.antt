-- `pool_checks::tables::rows_of` meets its contract. The loop's invariant: the first `i` intervals stand in the table as runs of rows.
use mathlib.Core.Path.{refl, ap, ◌∙◌, sym}
use native.Mathlib.Omega.{arith}
use lib.Dec.{eqb}
use Rattle.slicing.specs.Devices.{present}
use Rattle.slicing_core.specs.Rows.{at, device_rows}
use Rattle.pool_checks.proofs.RowSteps.{rowing_short, rowing_unknown, rowing_step, rows_first}
use Rattle.pool_checks.proofs.tables.rows_of.Goals as goal

pub returns-in_default-clause-rows_of : goal.returns-in_default-clause-rows_of
returns-in_default-clause-rows_of c =
    let args = c.args in
    rowing_unknown c.loop-i.invariant c.loop-i-test.true c.length_at-size.ensures c.if-size-eq0.false
    (λ cs. sym (c.in_default.ensures.1 cs) ∙ ap (λ x. present x (device_rows args.ids.now cs 0 args.n)) c.from.ensures)

pub returns-then-size-eq0-clause-rows_of : goal.returns-then-size-eq0-clause-rows_of
returns-then-size-eq0-clause-rows_of c =
    rowing_short c.loop-i.invariant c.loop-i-test.true c.length_at-size.ensures c.if-size-eq0.true

pub loop-i-preserved : goal.loop-i-preserved
loop-i-preserved c =
    let pre = c.requires in
    let found = c.in-Ok.ensures in
    rowing_step c.loop-i.invariant c.loop-i-test.true c.length_at-size.ensures c.if-size-eq0.false
    c.in-Ok.row found.1 pre.3 pre.0 (found.2 ∙ c.from.ensures)

pub returns-then-q-gt0-clause-rows_of : goal.returns-then-q-gt0-clause-rows_of
returns-then-q-gt0-clause-rows_of c =
    rows_first c.loop-i.invariant (omega arith) (omega (arith, c.if-q-gt0.true)) (eqb (at c.args.starts.now 0) 0) refl
