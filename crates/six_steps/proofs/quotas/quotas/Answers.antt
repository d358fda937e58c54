-- `six_steps::quotas::quotas` meets its contract. The loop's invariant: of the rows passed the arrays hold what they release and need.
use Rattle.six_steps.proofs.QuotaSteps.{quoted_step, quoted_released, quoted_queue}
use Rattle.six_steps.proofs.quotas.quotas.Goals as goal

pub loop-i-preserved : goal.loop-i-preserved
loop-i-preserved c =
    let i = c.loop-i-test.true in
    let pre = c.requires.n_bound in
    quoted_step c.loop-i.invariant _ _ i pre.0 (pre.1 _ i) c.saturating_sub-over.ensures c.saturating_sub.ensures

pub returns-clause-released : goal.returns-clause-released
returns-clause-released c =
    quoted_released c.loop-i.invariant c.loop-i-test.false

pub returns-clause-queue : goal.returns-clause-queue
returns-clause-queue c =
    quoted_queue c.loop-i.invariant c.requires.n_bound.0 c.loop-i-test.false
