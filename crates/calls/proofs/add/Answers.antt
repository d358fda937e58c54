-- `calls::add` meets its contract: each check is the rules' own, in their order, and so is the change to the devices with one more.
use mathlib.Core.Path.{refl, sym, ◌∙◌}
use native.Mathlib.Omega.{arith}
use Rattle.plans.specs.Plans.{accepts}
use Rattle.opened.specs.OpenPools.{state_in}
use Rattle.calls.proofs.CallChecks.{open_table, inside_limits, add_two, add_four, add_six, add_first, add_settle}
use Rattle.calls.proofs.MergedRows.{prepared_add}
use Rattle.calls.proofs.NextDevices.{open_few, open_ascending, next_add}
use Rattle.calls.proofs.add.Goals as goal

pub returns-then-device_outside : goal.returns-then-device_outside
returns-then-device_outside c =
    let a = c.args in record { planned = add_two a.before a.table.now a.id a.capacity (sym c.device_outside.ensures ∙ c.if-device_outside.true) refl; work_len = (c.requires.1, c.requires.2) }

pub find-requires : goal.find-requires
find-requires c =
    let a = c.requires.0 in (open_few a, open_ascending a)

pub returns-in_default : goal.returns-in_default
returns-in_default c =
    let inside = sym c.device_outside.ensures ∙ c.if-device_outside.false in
    let a = c.args in record {
      planned = add_four a.before a.table.now a.id a.capacity inside (c.in_default.ensures.3 a.before.capacities) refl;
      work_len = (c.requires.1, c.requires.2);
    }

pub returns-then-n-ge-MAX_DEVICES : goal.returns-then-n-ge-MAX_DEVICES
returns-then-n-ge-MAX_DEVICES c =
    let inside = sym c.device_outside.ensures ∙ c.if-device_outside.false in
    let a = c.args in record {
      planned = add_six a.before a.table.now a.id a.capacity inside (c.in-Err.ensures.1 a.before.capacities) c.if-n-ge-MAX_DEVICES.true refl;
      work_len = (c.requires.1, c.requires.2);
    }

pub first-requires : goal.first-requires
first-requires c =
    let v = c.requires.0.valid in
    let w = inside_limits _ _ (sym c.device_outside.ensures ∙ c.if-device_outside.false) in
    record {
      le_range = (v.some, v.most, v.room, v.room_most);
      le_id = (w.above, w.known, w.some, w.most, c.requires.2);
      ids_len = (c.requires.0.ids_size, c.requires.0.capacities_size, c.requires.0.has_size);
    }

pub returns-then-n-eq0 : goal.returns-then-n-eq0
returns-then-n-eq0 c =
    let inside = sym c.device_outside.ensures ∙ c.if-device_outside.false in
    let a = c.args in record {
      planned = add_first a.before a.table.now a.id a.capacity inside c.if-n-eq0.true
          (accepts _ refl (c.first.ensures.accepted (state_in a.before a.table.now) a.places a.work.now refl refl));
      work_len = (c.requires.1, c.first.ensures.next_len);
    }

pub insert_row-names-requires : goal.insert_row-names-requires
insert_row-names-requires c =
    (c.in-Err.ensures.0.most, omega (arith, c.if-n-ge-MAX_DEVICES.false), c.requires.0.ids_size)

pub insert_row-grown-requires : goal.insert_row-grown-requires
insert_row-grown-requires c =
    (c.in-Err.ensures.0.most, omega (arith, c.if-n-ge-MAX_DEVICES.false), c.requires.0.capacities_size)

pub shared-after-requires : goal.shared-after-requires
shared-after-requires c =
    let within = inside_limits _ _ (sym c.device_outside.ensures ∙ c.if-device_outside.false) in
    let n = next_add c.requires.0 within c.if-n-ge-MAX_DEVICES.false c.in-Err.ensures.0 (c.in-Err.ensures.1 c.args.before.capacities)
    c.insert_row-names.ensures c.insert_row-grown.ensures in
    (n.some, n.most, c.requires.0.valid.most, n.rising)

pub raise-requires : goal.raise-requires
raise-requires c =
    ((open_table c.requires.0).0, (open_table c.requires.0).1, c.requires.1)

pub insert_row-requires : goal.insert_row-requires
insert_row-requires c =
    (c.in-Err.ensures.0.most, omega (arith, c.if-n-ge-MAX_DEVICES.false), c.requires.0.has_size)

pub settle-requires : goal.settle-requires
settle-requires c =
    let within = inside_limits _ _ (sym c.device_outside.ensures ∙ c.if-device_outside.false) in
    let ready = prepared_add c.requires.0 (omega (arith, c.if-n-eq0.false)) _ _ within c.if-n-ge-MAX_DEVICES.false c.in-Err.ensures.0
    (c.in-Err.ensures.1 c.args.before.capacities) c.insert_row-names.ensures c.insert_row-grown.ensures c.insert_row.ensures
    (c.shared-after.ensures.same, (c.shared-after.ensures.shares, c.shared-after.ensures.has_len)) c.raise.ensures.q_after in
    (ready.merged, c.raise.ensures.into_len, c.requires.2)

pub returns : goal.returns
returns c =
    let inside = sym c.device_outside.ensures ∙ c.if-device_outside.false in
    let absent = c.in-Err.ensures.1 c.args.before.capacities in
    let ready = prepared_add c.requires.0 (omega (arith, c.if-n-eq0.false)) _ c.shared-after.result (inside_limits _ _ inside) c.if-n-ge-MAX_DEVICES.false
    c.in-Err.ensures.0 absent c.insert_row-names.ensures c.insert_row-grown.ensures c.insert_row.ensures
    (c.shared-after.ensures.same, (c.shared-after.ensures.shares, c.shared-after.ensures.has_len)) c.raise.ensures.q_after in
    let a = c.args in record {
      planned = add_settle a.before a.table.now a.id a.capacity inside absent c.if-n-ge-MAX_DEVICES.false
          (omega (arith, c.if-n-eq0.false)) ready c.settle.ensures.planned;
      work_len = c.settle.ensures.work_len;
    }
