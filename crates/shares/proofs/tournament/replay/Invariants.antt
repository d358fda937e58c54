-- `shares::tournament::replay` meets its contract. The loop's invariant: the nodes above node k are open.
use Prim.Native.Nat.{◌<◌}
use Rattle.shares.specs.Tournament.{Above, Tree}
use Rattle.shares.proofs.tournament.replay.Given as goal

abbrev pub invariant-loop-k : goal.invariant-loop-k
invariant-loop-k l =
    (l.k < l.n) × Tree l.points l.capacities l.n (λ j. Above j l.k) l.tree

abbrev pub decreases-loop-k : goal.decreases-loop-k
decreases-loop-k l =
    l.k
