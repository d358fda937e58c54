-- `shares::tournament::play` meets its contract. The loop's invariant: the nodes below k are open.
use Prim.Native.Nat.{◌<◌}
use Rattle.shares.specs.Tournament.{Tree}
use Rattle.shares.proofs.tournament.play.Given as goal

abbrev pub invariant-loop-k : goal.invariant-loop-k
invariant-loop-k l =
    Tree l.points l.capacities l.n (λ j. j < l.k) l.tree
