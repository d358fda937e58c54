-- `pools::closing::owners_of` meets its contract. The loop's invariant: the owners of the first `i` runs, with zeros behind.
use mathlib.Core.Path.{◌≡◌}
use Rattle.slicing.specs.Runs.{relabel}
use Rattle.slicing_core.specs.Rows.{at}
use Rattle.packed_runs.specs.Words.{runs}
use Rattle.pools.specs.Pools.{padded, owners_of}
use Rattle.pools.proofs.closing.owners_of.Given as goal

abbrev pub invariant-loop-i : goal.invariant-loop-i
invariant-loop-i l =
    (l.into ≡ padded 4096 (owners_of (relabel (at l.ids) (runs l.table 0 l.i))))
