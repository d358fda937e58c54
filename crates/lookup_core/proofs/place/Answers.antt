-- `lookup_core::place` meets its contract. The loop's invariant: halving from `lo` and `hi` ends where halving all n places does.
use native.Mathlib.Omega.{arith}
use Rattle.lookup_core.proofs.HalvingSteps.{halved_all, halved_up, halved_down, halved_one}
use Rattle.lookup_core.proofs.place.Goals as goal

pub loop-lo-init : goal.loop-lo-init
loop-lo-init c =
    halved_all _ _ _ c.requires.0

pub loop-lo-preserved-then-from-point : goal.loop-lo-preserved-then-from-point
loop-lo-preserved-then-from-point c =
    halved_up _ _ _ _ _ c.loop-lo.invariant (omega (arith, c.loop-lo-test.true)) (omega arith)

pub loop-lo-preserved : goal.loop-lo-preserved
loop-lo-preserved c =
    halved_down _ _ _ _ _ c.loop-lo.invariant (omega (arith, c.loop-lo-test.true)) (omega arith)

pub returns : goal.returns
returns c =
    halved_one _ _ _ _ _ c.loop-lo.invariant c.loop-lo-test.false
