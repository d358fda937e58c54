-- `placement::write_moves` meets its contract. The loop's invariant: the moves of the turns passed stand in front, and the rest of the list stays.
use Rattle.placement.proofs.Listing.{Listed}
use Rattle.placement.proofs.write_moves.Given as goal

abbrev pub invariant-loop-i : goal.invariant-loop-i
invariant-loop-i l =
    Listed l.turns l.t l.names l.initial.list l.list l.count l.start l.i
