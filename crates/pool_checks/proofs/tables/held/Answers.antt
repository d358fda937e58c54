-- `pool_checks::tables::held` meets its contract. The loop's invariant: each row has its points of the first `i` runs.
use mathlib.Core.Path.{◌≡◌}
use native.Mathlib.Omega.{arith}
use Rattle.pool_checks.proofs.HeldRuns.{summed_none, summed_total, summed_more}
use Rattle.pool_checks.proofs.tables.held.Goals as goal

pub loop-i-init : goal.loop-i-init
loop-i-init c =
    summed_none _

pub overflow_add-has : goal.overflow_add-has
overflow_add-has c =
    let t = summed_total c.loop-i.invariant (c.requires.1 c.loop-i.i (omega arith)) c.args.q (omega arith) in
    omega arith

pub loop-i-preserved : goal.loop-i-preserved
loop-i-preserved c =
    summed_more c.loop-i.invariant (c.requires.1 c.loop-i.i (omega arith))

pub returns : goal.returns
returns c =
    let e : c.loop-i.i ≡ c.args.q = omega arith in
    record { by_index = rw e at c.loop-i.invariant.sums; result_len = c.loop-i.invariant.size }
