-- `pool_checks::tables::held` meets its contract. The loop's invariant: each row has its points of the first `i` runs.
use Rattle.pool_checks.proofs.HeldRuns.{Summed}
use Rattle.pool_checks.proofs.tables.held.Given as goal

abbrev pub invariant-loop-i : goal.invariant-loop-i
invariant-loop-i l =
    Summed l.table l.has l.i
