-- `six_steps::quotas::quotas` meets its contract. The loop's invariant: of the rows passed the arrays hold what they release and need.
use Rattle.six_steps.proofs.QuotaSteps.{Quoted}
use Rattle.six_steps.proofs.quotas.quotas.Given as goal

abbrev pub invariant-loop-i : goal.invariant-loop-i
invariant-loop-i l =
    Quoted l.has l.due l.n l.release l.queue l.sum l.i
