-- `history::transcripts::replay` meets its contract: each line is printed behind those before it, then the table.
use mathlib.Core.Path.{◌≡◌, subst, ◌∙◌}
use native.Mathlib.Omega.{arith}
use lib.ListN.{length}
use Rattle.packed_runs.specs.Words.{room}
use Rattle.history_lines.proofs.LineLimits.{Fits}
use Rattle.history_lines.proofs.TextParts.{part_fits}
use Rattle.history_steps.specs.Advances.{reading_in}
use Rattle.history_steps.proofs.OpenReadings.{start_ready, start_reading}
use Rattle.history.proofs.Replaying.{Stepped, stepped_refused, stepped_advanced, stepped_accepted, stepped_declined, gives_as, replaying_none, replaying_room, replaying_step, replaying_table, replaying_end, closed_valid}
use Rattle.history.proofs.transcripts.replay.Goals as goal
use Rattle.history.proofs.transcripts.replay.Goals.{in-Ok, in-Err, in-Ok-step, in-Err-step}

pub loop-from-init : goal.loop-from-init
loop-from-init c =
    let o = c.without_devices-pool in
    (replaying_none c.args.text.now c.args.out.now _ (start_reading o.result o.ensures _ c.blank-table.ensures), start_ready o.result o.ensures _ c.blank-table.ensures c.blank-work.ensures c.blank-next.ensures)

pub advance-step-requires : goal.advance-step-requires
advance-step-requires c =
    let l = c.loop-from in
    let ready = l.invariant.1 in
    (subst Fits c.in-Ok.is (part_fits c.args.text.now l.from c.part_at-part.result c.part_at-part.ensures), ready.opened, ready.work_size, ready.next_size)

pub put_line-place-requires-clause-room : goal.put_line-place-requires-clause-room
put_line-place-requires-clause-room c =
    let l = c.loop-from in
    let inv = l.invariant in
    let made : Stepped (reading_in l.begun l.pool l.table) c.part_at-part.result.said c.match-part.step l.table c.match-part.table =
    elim c.match-part.branch [
      | in-Ok w ↦ rw (w.step-is, w.table-is) (stepped_advanced w.in-Ok.is w.advance-step.ensures.advanced)
      | in-Err w ↦ rw (w.step-is, w.table-is) (stepped_refused w.in-Err.is)
    ] in
    replaying_room c.args.text.now c.args.out.now inv.0 inv.1.opened.valid c.requires.0 c.requires.1 c.part_at-part.result c.part_at-part.ensures c.loop-from-test.true
    0 _ _ (stepped_accepted made c.in-Ok-step.is).0 (omega arith)

pub put_line-place-requires-in-Err-step-clause-room : goal.put_line-place-requires-in-Err-step-clause-room
put_line-place-requires-in-Err-step-clause-room c =
    let l = c.loop-from in
    let inv = l.invariant in
    let made : Stepped (reading_in l.begun l.pool l.table) c.part_at-part.result.said c.match-part.step l.table c.match-part.table =
    elim c.match-part.branch [
      | in-Ok w ↦ rw (w.step-is, w.table-is) (stepped_advanced w.in-Ok.is w.advance-step.ensures.advanced)
      | in-Err w ↦ rw (w.step-is, w.table-is) (stepped_refused w.in-Err.is)
    ] in
    replaying_room c.args.text.now c.args.out.now inv.0 inv.1.opened.valid c.requires.0 c.requires.1 c.part_at-part.result c.part_at-part.ensures c.loop-from-test.true
    _ 0 0 (gives_as (c.from-number.ensures ∙ c.from.ensures) (stepped_declined made c.in-Err-step.is inv.1.opened).0) (omega arith)

pub loop-from-preserved : goal.loop-from-preserved
loop-from-preserved c =
    let l = c.loop-from in
    let inv = l.invariant in
    let made : Stepped (reading_in l.begun l.pool l.table) c.part_at-part.result.said c.match-part.step l.table c.match-part.table =
    elim c.match-part.branch [
      | in-Ok w ↦ rw (w.step-is, w.table-is) (stepped_advanced w.in-Ok.is w.advance-step.ensures.advanced)
      | in-Err w ↦ rw (w.step-is, w.table-is) (stepped_refused w.in-Err.is)
    ] in
    let sizes : (length c.match-part.work ≡ room) × (length c.match-part.next ≡ room) =
    elim c.match-part.branch [
      | in-Ok w ↦ rw (w.work-is, w.next-is) w.advance-step.ensures.work_len
      | in-Err w ↦ rw (w.work-is, w.next-is) (inv.1.work_size, inv.1.next_size)
    ] in
    elim c.match-step.branch [
      | in-Ok-step w ↦ let s = stepped_accepted made w.in-Ok-step.is in rw (w.pool-is, w.begun-is, w.place-is, w.out-is) (
        replaying_step c.args.text.now c.args.out.now inv.0 inv.1.opened.valid c.requires.0 c.requires.1 c.part_at-part.result c.part_at-part.ensures c.loop-from-test.true
            0 _ _ s.0 (omega arith) _ _ _ s.1 w.put_line-place.ensures.place w.put_line-place.ensures.line,
        record { opened = s.2; work_size = sizes.0; next_size = sizes.1 },
      )
      | in-Err-step w ↦ let s = stepped_declined made w.in-Err-step.is inv.1.opened in rw (w.pool-is, w.begun-is, w.place-is, w.out-is) (
        replaying_step c.args.text.now c.args.out.now inv.0 inv.1.opened.valid c.requires.0 c.requires.1 c.part_at-part.result c.part_at-part.ensures c.loop-from-test.true
            _ 0 0 (gives_as (w.from-number.ensures ∙ w.from.ensures) s.0) (omega arith) _ _ _ s.1
            w.put_line-place-in-Err-step.ensures.place w.put_line-place-in-Err-step.ensures.line,
        record { opened = s.2; work_size = sizes.0; next_size = sizes.1 },
      )
    ]

pub put_table-requires : goal.put_table-requires
put_table-requires c =
    let inv = c.loop-from.invariant in (
      closed_valid _ inv.1.opened.valid c.close.result c.close.ensures,
      replaying_table c.args.text.now c.args.out.now inv.0 inv.1.opened.valid c.requires.0 c.requires.1 c.close.result c.close.ensures,
    )

pub returns : goal.returns
returns c =
    let inv = c.loop-from.invariant in
    let all = replaying_end c.args.text.now c.args.out.now inv.0 inv.1.opened.valid c.requires.0 c.requires.1 c.close.result c.close.ensures c.loop-from-test.false
    c.put_table.result c.put_table.new.out c.put_table.ensures.place c.put_table.ensures.table in
    record { place = all.0; text = all.1 }
