-- `filling::fill` meets its contract. The loop's invariant: the turns written and the filling of what is left are all the turns.
use Prim.Native.Nat.{◌+◌, ◌-◌}
use Rattle.slicing.specs.SixSteps.{fill}
use Rattle.packed_runs.specs.Words.{runs, pieces_of}
use Rattle.filling.proofs.FillSteps.{Filling}
use Rattle.filling.proofs.fill.Given as goal

abbrev pub invariant-loop-i : goal.invariant-loop-i
invariant-loop-i l =
    Filling (fill (pieces_of l.initial.pieces 0 l.p) (runs l.initial.queue 0 l.n)) l.p l.n l.pieces l.queue l.turns l.count l.i l.j

abbrev pub decreases-loop-i : goal.decreases-loop-i
decreases-loop-i l =
    l.p - l.i + (l.n - l.j)
