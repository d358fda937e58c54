-- `six_steps::cutting::cut` meets its contract. The loop's invariant: the pieces written and those of the walk from interval i on are all.
use mathlib.Core.Bool.{false}
use Rattle.slicing.specs.SixSteps.{end, walk}
use Rattle.slicing_core.specs.Rows.{at}
use Rattle.packed_runs.specs.Words.{runs}
use Rattle.six_steps.proofs.CutSteps.{Cutting}
use Rattle.six_steps.proofs.cutting.cut.Given as goal

abbrev pub invariant-loop-i : goal.invariant-loop-i
invariant-loop-i l =
    Cutting (walk (at l.initial.release) end false (runs l.table 0 l.q)) l.table l.q l.release l.pieces l.count l.i l.flag l.touch
