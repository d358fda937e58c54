-- `plans::labels::raise` meets its contract. The loop's invariant: the runs passed are renamed.
use mathlib.Core.Path.{◌≡◌}
use Prim.Native.Nat.{ℕ, ◌<◌}
use lib.ListN.{length}
use Rattle.slicing_core.specs.Rows.{at}
use Rattle.packed_runs.specs.Words.{room}
use Rattle.plans.specs.Labels.{raised, Named}
use Rattle.plans.proofs.labels.raise.Given as goal

abbrev pub invariant-loop-i : goal.invariant-loop-i
invariant-loop-i l = record {
  len : length l.into ≡ room;
  named : (j : ℕ) → j < l.i → Named (raised l.p) (at l.table j) (at l.into j);
}
