-- `plans::labels::renew` meets its contract. The loop's invariant: the runs passed are copied.
use mathlib.Core.Path.{◌≡◌}
use Prim.Native.Nat.{ℕ, ◌<◌}
use lib.ListN.{length}
use Rattle.slicing_core.specs.Rows.{at}
use Rattle.packed_runs.specs.Words.{room}
use Rattle.plans.proofs.labels.renew.Given as goal

abbrev pub invariant-loop-i : goal.invariant-loop-i
invariant-loop-i l = record {
  len : length l.table ≡ room;
  same : (j : ℕ) → j < l.i → at l.table j ≡ at l.next j;
}
