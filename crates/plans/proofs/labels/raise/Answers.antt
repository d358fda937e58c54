-- `plans::labels::raise` meets its contract. The loop's invariant: the runs passed are renamed.
use native.Mathlib.Omega.{arith}
use Rattle.plans.proofs.LabelSteps.{runs_named}
use Rattle.plans.proofs.labels.raise.Goals as goal

pub returns-clause-q_after : goal.returns-clause-q_after
returns-clause-q_after c =
    runs_named _ _ _ 0 _ (λ j a b. c.loop-i.invariant.named j (omega (arith, c.loop-i-test.false)))
