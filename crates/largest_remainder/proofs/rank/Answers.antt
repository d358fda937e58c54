-- `largest_remainder::rank` meets its contract. The loop's invariant: those counted and the rank among the rows left are the rank.
use native.Mathlib.Omega.{arith}
use Rattle.std.proofs.lemmas.Bool.Decides.{nat_tests}
use Rattle.largest_remainder.proofs.RemainderRows.{rank_step}
use Rattle.largest_remainder.proofs.rank.Goals as goal

pub loop-i-preserved : goal.loop-i-preserved
loop-i-preserved c =
    let args = c.args in
    let step = rank_step args.remainders.now args.ids.now args.p c.loop-i.i args.n c.loop-i-test.true in
    grind (arith, nat_tests, step)
