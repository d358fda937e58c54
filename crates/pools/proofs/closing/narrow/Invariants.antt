-- `pools::closing::narrow` meets its contract. The loop's invariant: the first `i` of both columns, with zeros behind.
use mathlib.Core.Path.{◌≡◌}
use lib.ListN.{take}
use Rattle.pools.specs.Pools.{padded}
use Rattle.pools.proofs.closing.narrow.Given as goal

abbrev pub invariant-loop-i : goal.invariant-loop-i
invariant-loop-i l =
    (l.columns.ids ≡ padded 256 (take l.i l.ids)) × (l.columns.capacities ≡ padded 256 (take l.i l.capacities))
