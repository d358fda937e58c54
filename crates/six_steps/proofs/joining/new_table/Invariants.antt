-- `six_steps::joining::new_table` meets its contract. The loop's invariant: the runs stored and the turns that are left have the new owners
-- of all points.
use Rattle.six_steps.proofs.JoinSteps.{Joined}
use Rattle.six_steps.proofs.joining.new_table.Given as goal

abbrev pub invariant-loop-i : goal.invariant-loop-i
invariant-loop-i l =
    Joined l.turns l.t l.table l.count l.i
