-- `calls::remove` meets its contract: each check is the rules' own, in their order, and so is the change to the devices with one less.
use mathlib.Core.Path.{refl, sym, ◌∙◌}
use native.Mathlib.Omega.{arith}
use Rattle.calls.proofs.CallChecks.{open_table, remove_two, remove_five, remove_seven, remove_settle}
use Rattle.calls.proofs.MergedRows.{prepared_remove}
use Rattle.calls.proofs.NextDevices.{open_few, open_ascending, next_remove}
use Rattle.calls.proofs.remove.Goals as goal

pub returns-then-outside : goal.returns-then-outside
returns-then-outside c =
    let a = c.args in record { planned = remove_two a.before a.table.now a.id (sym c.outside.ensures ∙ c.if-outside.true) refl; work_len = (c.requires.1, c.requires.2) }

pub find-requires : goal.find-requires
find-requires c =
    let a = c.requires.0 in (open_few a, open_ascending a)

pub returns-in_default : goal.returns-in_default
returns-in_default c =
    let known = sym c.outside.ensures ∙ c.if-outside.false in
    -- the refusal; `open_few` is for one that is chosen by the number of devices (docs/DECISIONS.md 96)
    let a = c.args in record {
      planned = remove_five a.before a.table.now a.id known (c.in_default.ensures.1 a.before.capacities) (grind (arith, open_few c.requires.0));
      work_len = (c.requires.1, c.requires.2);
    }

pub returns-then-n-le1 : goal.returns-then-n-le1
returns-then-n-le1 c =
    let known = sym c.outside.ensures ∙ c.if-outside.false in
    let a = c.args in record {
      planned = remove_seven a.before a.table.now a.id known (c.in-Ok.ensures.3 a.before.capacities) c.if-n-le1.true refl;
      work_len = (c.requires.1, c.requires.2);
    }

pub delete_row-ids-requires : goal.delete_row-ids-requires
delete_row-ids-requires c =
    let a = c.requires.0 in (c.in-Ok.ensures.1, open_few a, a.ids_size)

pub delete_row-fewer-requires : goal.delete_row-fewer-requires
delete_row-fewer-requires c =
    let a = c.requires.0 in (c.in-Ok.ensures.1, open_few a, a.capacities_size)

pub shared-after-requires : goal.shared-after-requires
shared-after-requires c =
    let n = next_remove c.requires.0 c.if-n-le1.false (c.in-Ok.ensures.1, c.in-Ok.ensures.2) c.delete_row-ids.ensures c.delete_row-fewer.ensures in
    (n.some, n.most, c.requires.0.valid.most, n.rising)

pub raise-requires : goal.raise-requires
raise-requires c =
    ((open_table c.requires.0).0, (open_table c.requires.0).1, c.requires.1)

pub insert_row-requires : goal.insert_row-requires
insert_row-requires c =
    let few = open_few c.requires.0 in
    (omega (arith, c.in-Ok.ensures.1), omega (arith, c.in-Ok.ensures.1, few), c.shared-after.ensures.has_len)

pub settle-requires : goal.settle-requires
settle-requires c =
    let ready = prepared_remove c.requires.0 (omega (arith, c.if-n-le1.false)) _ _ c.if-n-le1.false (c.in-Ok.ensures.1, c.in-Ok.ensures.2) c.delete_row-ids.ensures c.delete_row-fewer.ensures
    (c.shared-after.ensures.same, (c.shared-after.ensures.shares, c.shared-after.ensures.has_len)) c.insert_row.ensures c.raise.ensures.q_after in
    (ready.merged, c.raise.ensures.into_len, c.requires.2)

pub returns : goal.returns
returns c =
    let known = sym c.outside.ensures ∙ c.if-outside.false in
    let ready = prepared_remove c.requires.0 (omega (arith, c.if-n-le1.false)) _ c.shared-after.result c.if-n-le1.false (c.in-Ok.ensures.1, c.in-Ok.ensures.2) c.delete_row-ids.ensures c.delete_row-fewer.ensures
    (c.shared-after.ensures.same, (c.shared-after.ensures.shares, c.shared-after.ensures.has_len)) c.insert_row.ensures c.raise.ensures.q_after in
    let a = c.args in record {
      planned = remove_settle a.before a.table.now a.id known (c.in-Ok.ensures.3 a.before.capacities) c.if-n-le1.false ready c.settle.ensures.planned;
      work_len = c.settle.ensures.work_len;
    }
