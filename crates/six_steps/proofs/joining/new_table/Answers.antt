-- `six_steps::joining::new_table` meets its contract. The loop's invariant: the runs stored and the turns that are left have the new owners
-- of all points.
use native.Mathlib.Omega.{arith}
use Rattle.six_steps.proofs.JoinSteps.{joined_push, joined_step, joined_end}
use Rattle.six_steps.proofs.joining.new_table.Goals as goal

pub push-count-requires : goal.push-count-requires
push-count-requires c =
    joined_push c.loop-i.invariant c.loop-i-test.true _ (omega arith) c.requires.0 c.requires.1

pub loop-i-preserved : goal.loop-i-preserved
loop-i-preserved c =
    joined_step c.loop-i.invariant c.loop-i-test.true c.push-count.ensures

pub returns-clause-table : goal.returns-clause-table
returns-clause-table c =
    joined_end c.loop-i.invariant c.loop-i-test.false
