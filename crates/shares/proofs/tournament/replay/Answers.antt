-- `shares::tournament::replay` meets its contract. The loop's invariant: the nodes above node k are open.
use Prim.Native.Nat.{◌/◌}
use native.Mathlib.Omega.{arith}
use Rattle.shares.specs.Tournament.{Above}
use Rattle.shares.proofs.Matches.{tree_play, tree_close, tree_small}
use Rattle.shares.proofs.Nodes.{above_le, above_next}
use Rattle.shares.proofs.tournament.replay.Goals as goal

pub winner-requires : goal.winner-requires
winner-requires c =
    let pass = c.loop-k in
    tree_small c.requires.0 pass.invariant.1 pass.k (omega arith) pass.invariant.0 (λ j h. above_le h)

pub loop-k-preserved : goal.loop-k-preserved
loop-k-preserved c =
    let pass = c.loop-k in (
      omega arith,
      tree_play c.requires.0 pass.invariant.1 pass.k (omega arith) pass.invariant.0 (λ j h. above_le h)
          c.winner.result c.winner.ensures (λ j. Above j (pass.k / 2)) (λ j d h. above_next d h),
    )

pub returns : goal.returns
returns c =
    tree_close c.loop-k.invariant.1 (λ j l h. omega (arith, above_le h))
