-- `shares::tournament::leaves` meets its contract. The loop's invariant: the rows passed stand at their leaves.
use mathlib.Core.Path.{◌≡◌}
use Prim.Native.Nat.{ℕ, ◌+◌, ◌<◌}
use lib.ListN.{length}
use Rattle.slicing_core.specs.Rows.{at}
use Rattle.shares.proofs.tournament.leaves.Given as goal

abbrev pub invariant-loop-i : goal.invariant-loop-i
invariant-loop-i l =
    (length l.tree ≡ 512) × ((k : ℕ) → k < l.i → at l.tree (l.n + k) ≡ k)
