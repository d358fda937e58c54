-- The rows found are among those passed.
use Rattle.std.proofs.Common.{◌≤◌}
use Rattle.test_calls.proofs.pool_rows.used.Given as goal

abbrev pub invariant-loop-i : goal.invariant-loop-i
invariant-loop-i l = l.found ≤ l.i
