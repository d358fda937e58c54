-- `demand3::run` meets its contract. The loop's invariant: the pool is the one after the calls that all numbers but those left ask for.
use mathlib.Core.Path.{◌∙◌}
use native.Mathlib.Omega.{arith}
use Rattle.demand3.proofs.Runs.{running_start, running_next, running_end}
use Rattle.demand3.proofs.run.Goals as goal

pub loop-numbers-init : goal.loop-numbers-init
loop-numbers-init c =
    rw (c.into_iter-numbers-iterator.ensures.into_iter_gives, c.chunks_exact-numbers-items.ensures.rest)
    (c.chunks_exact-numbers-items.ensures.size, running_start _ _ _)

pub loop-numbers-preserved : goal.loop-numbers-preserved
loop-numbers-preserved c =
    let w = c.loop-numbers.invariant in
    let s = c.in-Some.ensures.steps in
    (s.0 ∙ w.0, running_next _ c.changed.result _ _ w.1 s.1.0 (s.1.1 ∙ w.0) c.call_of-call.ensures c.changed.ensures)

pub returns : goal.returns
returns c =
    let w = c.loop-numbers.invariant in
    let s = c.in-None.ensures.steps in
    running_end w.1 (omega (arith, s.1.0, w.0))
