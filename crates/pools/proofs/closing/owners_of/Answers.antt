-- `pools::closing::owners_of` meets its contract. The loop's invariant: the owners of the first `i` runs, with zeros behind.
use native.Mathlib.Omega.{arith}
use Rattle.slicing_core.specs.Rows.{at}
use Rattle.pools.proofs.ClosedPools.{owners_of_run}
use Rattle.pools.proofs.closing.owners_of.Goals as goal

pub loop-i-preserved : goal.loop-i-preserved
loop-i-preserved c =
    let pass = c.loop-i in
    rw pass.invariant (owners_of_run 4096 (at c.args.ids.now) c.args.table.now pass.i (omega arith))
