-- `calls::resize` meets its contract: each check is the rules' own, in their order, and so is the change to the devices with the capacity.
use mathlib.Core.Path.{refl, sym, ◌∙◌}
use native.Mathlib.Omega.{arith}
use Rattle.calls.proofs.CallChecks.{open_table, inside_limits, resize_two, resize_five, resize_settle}
use Rattle.calls.proofs.MergedRows.{prepared_resize}
use Rattle.calls.proofs.NextDevices.{open_few, open_ascending, next_resize}
use Rattle.calls.proofs.resize.Goals as goal

pub returns-then-device_outside : goal.returns-then-device_outside
returns-then-device_outside c =
    let a = c.args in record { planned = resize_two a.before a.table.now a.id a.capacity (sym c.device_outside.ensures ∙ c.if-device_outside.true) refl; work_len = (c.requires.1, c.requires.2) }

pub find-requires : goal.find-requires
find-requires c =
    let a = c.requires.0 in (open_few a, open_ascending a)

pub returns-in_default : goal.returns-in_default
returns-in_default c =
    let inside = sym c.device_outside.ensures ∙ c.if-device_outside.false in
    let a = c.args in record {
      planned = resize_five a.before a.table.now a.id a.capacity inside (c.in_default.ensures.1 a.before.capacities) refl;
      work_len = (c.requires.1, c.requires.2);
    }

pub offset_bounds-capacities-row : goal.offset_bounds-capacities-row
offset_bounds-capacities-row c =
    omega (arith, c.in-Ok.ensures.1, open_few c.requires.0)

pub bounds-capacities-row : goal.bounds-capacities-row
bounds-capacities-row c =
    omega (arith, c.in-Ok.ensures.1, open_few c.requires.0)

pub shared-after-requires : goal.shared-after-requires
shared-after-requires c =
    let within = inside_limits _ _ (sym c.device_outside.ensures ∙ c.if-device_outside.false) in
    let n = next_resize c.requires.0 within (c.in-Ok.ensures.1, c.in-Ok.ensures.2) in
    (n.some, n.most, c.requires.0.valid.most, n.rising)

pub raise-requires : goal.raise-requires
raise-requires c =
    ((open_table c.requires.0).0, (open_table c.requires.0).1, c.requires.1)

pub settle-requires : goal.settle-requires
settle-requires c =
    let within = inside_limits _ _ (sym c.device_outside.ensures ∙ c.if-device_outside.false) in
    let ready = prepared_resize c.requires.0 (omega (arith, c.in-Ok.ensures.1)) _ _ within (c.in-Ok.ensures.1, c.in-Ok.ensures.2)
    (c.shared-after.ensures.same, (c.shared-after.ensures.shares, c.shared-after.ensures.has_len)) c.raise.ensures.q_after in
    (ready.merged, c.raise.ensures.into_len, c.requires.2)

pub returns : goal.returns
returns c =
    let inside = sym c.device_outside.ensures ∙ c.if-device_outside.false in
    let ready = prepared_resize c.requires.0 (omega (arith, c.in-Ok.ensures.1)) _ c.shared-after.result (inside_limits _ _ inside) (c.in-Ok.ensures.1, c.in-Ok.ensures.2)
    (c.shared-after.ensures.same, (c.shared-after.ensures.shares, c.shared-after.ensures.has_len)) c.raise.ensures.q_after in
    let a = c.args in record {
      planned = resize_settle a.before a.table.now a.id a.capacity inside (c.in-Ok.ensures.3 a.before.capacities) ready c.settle.ensures.planned;
      work_len = c.settle.ensures.work_len;
    }
