-- `pools::closing::starts_of` meets its contract. The loop's invariant: the starts of the first `i` runs, with zeros behind, and
-- the point after them.
use mathlib.Core.Path.{◌≡◌}
use Rattle.slicing.specs.Runs.{total}
use Rattle.packed_runs.specs.Words.{runs}
use Rattle.pools.specs.Pools.{padded, starts_of}
use Rattle.pools.proofs.closing.starts_of.Given as goal

abbrev pub invariant-loop-i : goal.invariant-loop-i
invariant-loop-i l =
    (l.start ≡ total (runs l.table 0 l.i)) × (l.into ≡ padded 4096 (starts_of 0 (runs l.table 0 l.i)))
