-- `lookup_core::place` meets its contract. The loop's invariant: halving from `lo` and `hi` ends where halving all n places does.
use Prim.Native.Nat.{◌-◌}
use Rattle.lookup_core.proofs.HalvingSteps.{Halved}
use Rattle.lookup_core.proofs.place.Given as goal

abbrev pub invariant-loop-lo : goal.invariant-loop-lo
invariant-loop-lo l =
    Halved l.starts l.point l.n l.lo l.hi

abbrev pub decreases-loop-lo : goal.decreases-loop-lo
decreases-loop-lo l =
    l.hi - l.lo
