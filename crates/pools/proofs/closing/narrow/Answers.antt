-- `pools::closing::narrow` meets its contract. The loop's invariant: the first `i` of both columns, with zeros behind.
use native.Mathlib.Omega.{arith}
use Rattle.pools.proofs.ClosedPools.{padded_take}
use Rattle.pools.proofs.closing.narrow.Goals as goal

pub loop-i-preserved : goal.loop-i-preserved
loop-i-preserved c =
    let pass = c.loop-i in (
      rw pass.invariant.0 (padded_take 256 c.args.ids.now pass.i (omega arith) (omega (arith, c.requires.ids_len.0))),
      rw pass.invariant.1 (padded_take 256 c.args.capacities.now pass.i (omega arith) (omega (arith, c.requires.ids_len.1))),
    )
