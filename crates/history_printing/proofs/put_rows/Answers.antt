-- `history_printing::put_rows` meets its contract. The loop's invariant: the first i rows are written.
use native.Mathlib.Omega.{arith}
use Rattle.history_printing.proofs.PrintedRows.{row_fits, printed_none, printed_room, printed_more, printed_all}
use Rattle.history_printing.proofs.put_rows.Goals as goal

pub loop-i-init : goal.loop-i-init
loop-i-init c =
    let a = c.args in
    printed_none a.starts.now a.owners.now a.range a.q a.place a.out.now

pub overflow_sub-end : goal.overflow_sub-end
overflow_sub-end c =
    let a = c.args in
    omega (
      arith,
      row_fits a.starts.now a.owners.now a.range a.q c.loop-i.i c.loop-i-test.true c.requires.q_bound.2,
      c.from-start.ensures,
      c.end_of-end.ensures,
    )

pub put_line-last-requires-clause-room : goal.put_line-last-requires-clause-room
put_line-last-requires-clause-room c =
    let a = c.args in
    printed_room a.starts.now a.owners.now a.range a.q a.place a.out.now c.loop-i.out c.loop-i.last c.loop-i.i
    c.from-start.result c.end_of-end.result c.from.result c.requires.q_bound.2 c.requires.q_bound.1 c.loop-i-test.true c.requires.q_in_bounds
    c.from-start.ensures c.end_of-end.ensures c.from.ensures (omega arith) c.loop-i.invariant

pub loop-i-preserved : goal.loop-i-preserved
loop-i-preserved c =
    let a = c.args in
    printed_more a.starts.now a.owners.now a.range a.q a.place a.out.now c.loop-i.out c.loop-i.last c.loop-i.i
    c.from-start.result c.end_of-end.result c.from.result c.requires.q_bound.2 c.requires.q_bound.1 c.loop-i-test.true c.requires.q_in_bounds
    c.from-start.ensures c.end_of-end.ensures c.from.ensures (omega arith) c.loop-i.invariant
    c.put_line-last.new.out c.put_line-last.result (c.put_line-last.ensures.place, c.put_line-last.ensures.line)

pub shape_of-out : goal.shape_of-out
shape_of-out c =
    c.loop-i.invariant.room

pub returns : goal.returns
returns c =
    let l = c.loop-i in let a = c.args in let all = printed_all a.starts.now a.owners.now a.range a.q a.place a.out.now l.out l.last l.i c.loop-i-test.false l.invariant in record { place = all.0; rows = all.1 }
