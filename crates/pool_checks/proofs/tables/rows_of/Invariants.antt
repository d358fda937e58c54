-- `pool_checks::tables::rows_of` meets its contract. The loop's invariant: the first `i` intervals stand in the table as runs of rows.
use Rattle.pool_checks.proofs.RowSteps.{Rowing}
use Rattle.pool_checks.proofs.tables.rows_of.Given as goal

abbrev pub invariant-loop-i : goal.invariant-loop-i
invariant-loop-i l =
    Rowing l.starts l.owners l.q l.range l.ids l.n l.table l.i
