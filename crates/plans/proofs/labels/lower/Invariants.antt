-- `plans::labels::lower` meets its contract. The loop's invariant: the runs passed are renamed, and the others stand as they did.
use mathlib.Core.Path.{◌≡◌}
use Prim.Native.Nat.{ℕ, ◌≤◌, ◌<◌}
use Rattle.slicing_core.specs.Rows.{at}
use Rattle.plans.specs.Labels.{lowered, Named}
use Rattle.plans.proofs.labels.lower.Given as goal

abbrev pub invariant-loop-run : goal.invariant-loop-run
invariant-loop-run l = record {
  named : (j : ℕ) → j < l.run-index → Named (lowered l.p) (at l.initial.run-items j) (at l.run-items j);
  rest : (j : ℕ) → l.run-index ≤ j → at l.initial.run-items j ≡ at l.run-items j;
}
