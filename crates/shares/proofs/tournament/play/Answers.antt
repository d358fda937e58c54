-- `shares::tournament::play` meets its contract. The loop's invariant: the nodes below k are open.
use Prim.Native.Nat.{◌<◌, ◌-◌}
use native.Mathlib.Omega.{arith}
use Rattle.shares.proofs.Matches.{tree_leaves, tree_play}
use Rattle.shares.proofs.tournament.play.Goals as goal

pub loop-k-init : goal.loop-k-init
loop-k-init c =
    tree_leaves c.requires.1 _ (λ j l. l)

pub loop-k-preserved : goal.loop-k-preserved
loop-k-preserved c =
    let pass = c.loop-k in
    tree_play c.requires.0 pass.invariant (pass.k - 1) (omega arith) (omega arith) (λ j l. omega arith)
    c.winner.result c.winner.ensures (λ j. j < pass.k - 1) (λ j d l. omega (arith, d))
