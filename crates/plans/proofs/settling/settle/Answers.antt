-- `plans::settling::settle` meets its contract: the checks 8 and 9 are judged on the new table and the moves of the rows, which are the
-- rules' by other names, and the plan is that of the ending that they leave.
use mathlib.Core.Path.{refl}
use native.Mathlib.Omega.{arith}
use Rattle.plans.specs.Plans.{accepts}
use Rattle.plans.proofs.Merging.{merged_few, merged_points, merged_has, merged_due, merged_balanced}
use Rattle.plans.proofs.Planning.{planned_refused, accepted_settled, settled_eight, settled_nine}
use Rattle.refusals.specs.declared.Refusal.TheVariants.{OverLimit, ShortList}
use Rattle.plans.proofs.settling.settle.Goals as goal

pub steps-done-requires : goal.steps-done-requires
steps-done-requires c =
    let pre = c.requires in let m = pre.0 in record { q_bound = (merged_few m, m.few, m.labels, omega (arith, merged_points m, m.valid.most)); below = (merged_has m, merged_due m, merged_balanced m); work_len = (pre.1, pre.2) }

pub returns-then-done-limit : goal.returns-then-done-limit
returns-then-done-limit c =
    let d = c.steps-done.ensures in record { planned = planned_refused _ OverLimit refl (λ lent l. settled_eight c.requires.0 d c.if-done-limit.true lent); work_len = (d.work_size, d.next_size) }

pub returns-then-done-places : goal.returns-then-done-places
returns-then-done-places c =
    let d = c.steps-done.ensures in record {
      planned = planned_refused _ ShortList refl
          (λ lent l. settled_nine c.requires.0 d c.if-done-limit.false lent (omega (arith, c.if-done-places.true)));
      work_len = (d.work_size, d.next_size);
    }

pub lower-requires : goal.lower-requires
lower-requires c =
    (omega (arith, c.if-done-limit.false, c.requires.0.valid.room_most), c.steps-done.ensures.next_size)

pub returns : goal.returns
returns c =
    let d = c.steps-done.ensures in record { planned = accepts _ refl (accepted_settled c.requires.0 d c.if-done-limit.false _ c.lower.ensures.q_after c.lower.ensures.table_len _ _ c.if-done-places.false refl refl refl refl refl); work_len = (d.work_size, c.lower.ensures.table_len) }
