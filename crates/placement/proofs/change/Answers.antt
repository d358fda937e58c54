-- `placement::change` meets its contract: a pool that is not valid and a refused change leave pool and list, and a planned change answers
-- what the plan says.
use native.Mathlib.Omega.{arith}
use Rattle.plans.proofs.Planning.{planned_accepted, planned_declined}
use Rattle.placement.proofs.Changes.{changed_invalid, changed_refused, changed_planned, moves_fit}
use Rattle.placement.proofs.change.Goals as goal

pub returns-in_default : goal.returns-in_default
returns-in_default c =
    rw c.refused.ensures (changed_invalid _ _ _ c.in_default.ensures.valid)

pub plan-requires : goal.plan-requires
plan-requires c =
    (c.in-Some.ensures.opened.0, c.blank-turns.ensures, c.blank-next.ensures)

pub returns-in-Err : goal.returns-in-Err
returns-in-Err c =
    changed_refused _ _ _ c.in-Some.ensures.valid c.in-Some.before c.open.new.table c.in-Some.ensures.opened.1 (grind arith)
    (planned_declined c.in-Err.ensures.planned)

pub write_moves-requires : goal.write_moves-requires
write_moves-requires c =
    let made = planned_accepted c.in-Ok.ensures.planned in
    (made.most, made.points, moves_fit _ _ _ c.in-Some.ensures.valid c.in-Some.before c.open.new.table c.in-Some.ensures.opened.1 made)

pub returns : goal.returns
returns c =
    rw c.close.ensures
    (changed_planned _ _ _ c.in-Some.ensures.valid c.in-Some.before c.open.new.table c.in-Some.ensures.opened.1 (planned_accepted c.in-Ok.ensures.planned) c.write_moves.ensures)
