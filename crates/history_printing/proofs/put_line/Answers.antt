-- `history_printing::put_line` meets its contract: each field stands behind the one before it.
use mathlib.Core.Path.{◌≡◌}
use Prim.Native.Nat.{◌+◌, ◌≤◌, ◌<◌}
use native.Mathlib.Omega.{arith}
use lib.ListN.{length}
use Rattle.history_numbers.specs.Text.{line_end, space}
use Rattle.history_printing.proofs.PutBehind.{line_none, line_room, line_more, line_all}
use Rattle.history_printing.proofs.put_line.Goals as goal
use Rattle.history_printing.proofs.put_line.Goals.{then-i-numbers, else-i-numbers}

pub loop-i-init : goal.loop-i-init
loop-i-init c = line_none c.args.out.now c.args.place c.args.numbers.now c.requires.some c.requires.room

pub put_field-last-requires : goal.put_field-last-requires
put_field-last-requires c =
    line_room c.args.out.now c.args.place c.args.numbers.now c.loop-i.out c.loop-i.last c.loop-i.i c.loop-i-test.true c.loop-i.invariant

pub loop-i-preserved : goal.loop-i-preserved
loop-i-preserved c =
    let l = c.loop-i in
    let ns = c.args.numbers.now in
    let e : (l.i + 1 < length ns → c.if-i-numbers.end ≡ space) × (length ns ≤ l.i + 1 → c.if-i-numbers.end ≡ line_end) = elim c.if-i-numbers.branch [
      | then-i-numbers w ↦ (λ k. w.end-is, λ k. absurd (omega arith))
      | else-i-numbers w ↦ (λ k. absurd (omega arith), λ k. w.end-is)
    ] in
    line_more c.args.out.now c.args.place ns l.out l.last l.i c.if-i-numbers.end c.loop-i-test.true e.0 e.1 l.invariant
    c.put_field-last.new.out c.put_field-last.result (c.put_field-last.ensures.place, c.put_field-last.ensures.field)

pub returns : goal.returns
returns c =
    let l = c.loop-i in
    let all = line_all c.args.out.now c.args.place c.args.numbers.now l.out l.last l.i c.requires.some c.loop-i-test.false l.invariant in
    record { place = all.0; line = all.1 }
