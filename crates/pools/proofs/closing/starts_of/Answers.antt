-- `pools::closing::starts_of` meets its contract. The loop's invariant: the starts of the first `i` runs, with zeros behind, and
-- the point after them.
use native.Mathlib.Omega.{arith}
use Rattle.pools.proofs.ClosedPools.{total_runs_more, total_runs_le, starts_of_run}
use Rattle.pools.proofs.closing.starts_of.Goals as goal

pub overflow_cast-into : goal.overflow_cast-into
overflow_cast-into c =
    let args = c.args in
    omega (arith, total_runs_le args.table.now c.loop-i.i args.q (omega arith), c.requires.2 c.loop-i.i (omega arith))

pub overflow_add-start : goal.overflow_add-start
overflow_add-start c =
    let args = c.args in
    omega (arith, total_runs_le args.table.now c.loop-i.i args.q (omega arith))

pub loop-i-preserved : goal.loop-i-preserved
loop-i-preserved c =
    let args = c.args in
    let pass = c.loop-i in (
      rw pass.invariant.0 (total_runs_more args.table.now pass.i),
      rw (pass.invariant.0, pass.invariant.1) (starts_of_run 4096 args.table.now pass.i (omega arith)),
    )
