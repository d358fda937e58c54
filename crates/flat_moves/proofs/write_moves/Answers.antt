-- `flat_moves::write_moves` meets its contract. The loop's invariant: the moves of the turns passed stand in front, and the rest of the list stays.
use Rattle.flat_moves.proofs.WrittenMoves.{listed_on, listed_more, listed_room}
use Rattle.flat_moves.proofs.write_moves.Goals as goal
use Rattle.flat_moves.proofs.write_moves.Goals.{then-from-to, else-from-to}

pub put_move-requires : goal.put_move-requires
put_move-requires c =
    listed_room c.loop-i.invariant c.loop-i-test.true c.if-from-to.true c.requires.2

pub loop-i-preserved : goal.loop-i-preserved
loop-i-preserved c =
    let w = c.loop-i.invariant in
    let h = c.loop-i-test.true in
    elim c.if-from-to.branch [
      | then-from-to s ↦ rw (s.count-is, s.list-is) (listed_more w h s.if-from-to.true s.put_move.ensures)
      | else-from-to s ↦ rw (s.count-is, s.list-is) (listed_on w h s.if-from-to.false)
    ]
