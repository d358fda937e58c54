-- `plans::labels::lower` meets its contract. The loop's invariant: the runs passed are renamed, and the others stand as they did.
use mathlib.Core.Path.{ap, ◌∙◌}
use native.Mathlib.Omega.{arith}
use lib.ListN.{length-take}
use Rattle.slicing.specs.Runs.{relabel}
use Rattle.plans.specs.Labels.{lowered}
use Rattle.plans.proofs.LabelSteps.{runs_named, runs_front, runs_take}
use Rattle.plans.proofs.labels.lower.Goals as goal

pub returns-clause-q_after : goal.returns-clause-q_after
returns-clause-q_after c =
    let q = c.args.q in
    let table = c.args.table.now in
    runs_front c.loop-run.run-items _ q (omega (arith, length-take q table))
    ∙ runs_named (lowered c.args.p) _ _ 0 q (λ j a b. c.loop-run.invariant.named j (omega (arith, length-take q table)))
    ∙ ap (relabel (lowered c.args.p)) (runs_take table q)
