-- `plans::labels::renew` meets its contract: the q runs in front are those of `next`.
use native.Mathlib.Omega.{arith}
use Rattle.packed_runs.proofs.Words.{runs_same}
use Rattle.plans.proofs.labels.renew.Goals as goal

pub returns-clause-q_after : goal.returns-clause-q_after
returns-clause-q_after c =
    runs_same _ _ 0 _ (λ j a b. c.loop-i.invariant.same j (omega (arith, c.loop-i-test.false)))
