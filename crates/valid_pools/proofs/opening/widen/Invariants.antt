-- `valid_pools::opening::widen` meets its contract. The loop's invariant: the first `i` numbers of both columns are copied.
use mathlib.Core.Path.{◌≡◌}
use Prim.Native.Nat.{ℕ, ◌<◌}
use Rattle.slicing_core.specs.Rows.{at}
use Rattle.valid_pools.proofs.opening.widen.Given as goal

abbrev pub invariant-loop-i : goal.invariant-loop-i
invariant-loop-i l =
    ((k : ℕ) → k < l.i → at l.into k ≡ at l.ids k) × ((k : ℕ) → k < l.i → at l.beside k ≡ at l.values k)
