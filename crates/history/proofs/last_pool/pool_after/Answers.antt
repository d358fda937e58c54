-- `history::last_pool::pool_after` meets its contract: each line is applied to what the lines before it left.
use mathlib.Core.Path.{refl, subst}
use Rattle.history_lines.proofs.LineLimits.{Fits}
use Rattle.history_lines.proofs.TextParts.{part_fits}
use Rattle.history_steps.proofs.OpenReadings.{start_ready, start_reading}
use Rattle.history.proofs.Replaying.{stepped_refused, stepped_advanced, stepped_accepted, stepped_declined}
use Rattle.history.proofs.PoolsLeft.{leaving_none, leaving_step}
use Rattle.history.proofs.last_pool.pool_after.Goals as goal

pub close-requires : goal.close-requires
close-requires c = (start_ready c.without_devices-pool.result c.without_devices-pool.ensures _ c.blank-table.ensures c.blank-work.ensures c.blank-next.ensures).opened

pub loop-from-init : goal.loop-from-init
loop-from-init c =
    let o = c.without_devices-pool in
    (leaving_none c.args.text.now _ (start_reading o.result o.ensures _ c.blank-table.ensures), start_ready o.result o.ensures _ c.blank-table.ensures c.blank-work.ensures c.blank-next.ensures)

pub advance-requires : goal.advance-requires
advance-requires c =
    let l = c.loop-from in
    let ready = l.invariant.1 in
    (subst Fits c.in-Ok.is (part_fits c.args.text.now l.from c.part_at-part.result c.part_at-part.ensures), ready.opened, ready.work_size, ready.next_size)

pub loop-from-preserved-in-Ok-advance : goal.loop-from-preserved-in-Ok-advance
loop-from-preserved-in-Ok-advance c =
    let s = stepped_accepted (stepped_advanced c.in-Ok.is c.in-Ok-advance.ensures.advanced) refl in (
      leaving_step _ c.loop-from.invariant.0 c.part_at-part.result c.part_at-part.ensures c.loop-from-test.true _ s.1,
      record { opened = s.2; work_size = c.in-Ok-advance.ensures.work_len.0; next_size = c.in-Ok-advance.ensures.work_len.1 },
    )

pub loop-from-preserved-in_default-advance : goal.loop-from-preserved-in_default-advance
loop-from-preserved-in_default-advance c =
    let inv = c.loop-from.invariant in
    let s = stepped_declined (stepped_advanced c.in-Ok.is c.in_default-advance.ensures.advanced) refl inv.1.opened in (
      leaving_step _ inv.0 c.part_at-part.result c.part_at-part.ensures c.loop-from-test.true _ s.1,
      record { opened = s.2; work_size = c.in_default-advance.ensures.work_len.0; next_size = c.in_default-advance.ensures.work_len.1 },
    )

pub loop-from-preserved : goal.loop-from-preserved
loop-from-preserved c =
    let inv = c.loop-from.invariant in
    let s = stepped_declined (stepped_refused c.in_default.is) refl inv.1.opened in
    (leaving_step _ inv.0 c.part_at-part.result c.part_at-part.ensures c.loop-from-test.true _ s.1, inv.1)
