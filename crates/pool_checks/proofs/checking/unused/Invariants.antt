-- `pool_checks::checking::unused` meets its contract. The loop's invariant: all from place `n` up to `i` are 0.
use mathlib.Core.Path.{◌≡◌}
use Prim.Native.Nat.{ℕ, ◌≤◌, ◌<◌}
use Rattle.slicing_core.specs.Rows.{at}
use Rattle.pool_checks.proofs.checking.unused.Given as goal

abbrev pub invariant-loop-i : goal.invariant-loop-i
invariant-loop-i l =
    ((k : ℕ) → l.n ≤ k → k < l.i → at l.ids k ≡ 0) × ((k : ℕ) → l.n ≤ k → k < l.i → at l.values k ≡ 0)
