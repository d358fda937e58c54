-- `shares::greatest_divisors::shares` meets its contract. The loop's invariant: the points were dealt by the rule, and the tree is their tournament.
use mathlib.Core.Path.{◌≡◌}
use mathlib.Core.List.{List}
use Prim.Native.Nat.{ℕ, suc, ◌+◌, ◌-◌, ◌≤◌}
use native.Mathlib.Nat.{sub-zero}
use native.Mathlib.Omega.{arith}
use lib.ListN.{set}
use Rattle.slicing.specs.Devices.{Rising}
use Rattle.slicing_core.specs.Rows.{at, device_rows}
use Rattle.shares.specs.GreatestDivisors.{Dealt}
use Rattle.shares.specs.Tournament.{Tournament}
use Rattle.shares.proofs.GreatestDivisors.{dealt_start, dealt_give, dealt_ready, dealt_shares}
use Rattle.shares.proofs.Matches.{tree_raise, root_row, root_ahead}
use Rattle.shares.proofs.greatest_divisors.shares.Goals as goal

-- a point more for the row at the root
given : {R n left rest : ℕ} {ids caps p tree : List ℕ} → Rising 0 (device_rows ids caps 0 n) → Dealt R ids caps n p left → Tournament p caps n tree
    → 1 ≤ n → n ≤ 256 → left ≡ suc rest → Dealt R ids caps n (set p (at tree 1) (at p (at tree 1) + 1)) rest
given r d t a b e = dealt_give r d b e (root_row t a) (root_ahead t)

pub play-requires : goal.play-requires
play-requires c =
    let pre = c.requires in
    (dealt_ready pre.3 (dealt_start c.sum-c.ensures c.floors-left.ensures) pre.2 pre.0 pre.1, c.leaves.ensures)

pub loop-init : goal.loop-init
loop-init c =
    (simp sub-zero (dealt_start c.sum-c.ensures c.floors-left.ensures), c.play.ensures)

pub replay-requires : goal.replay-requires
replay-requires c =
    let pre = c.requires in
    let inv = c.loop.invariant in
    let root = root_row inv.1 pre.0 in (
      dealt_ready pre.3 (given {rest = c.floors-left.result - (c.loop.counter + 1)} pre.3 inv.0 inv.1 pre.0 pre.1 (omega arith)) pre.2 pre.0 pre.1,
      tree_raise inv.1 root (omega (arith, root, inv.0.size)),
    )

pub loop-preserved : goal.loop-preserved
loop-preserved c =
    let pre = c.requires in
    let inv = c.loop.invariant in
    (given pre.3 inv.0 inv.1 pre.0 pre.1 (omega arith), c.replay.ensures)

pub returns-clause-shares : goal.returns-clause-shares
returns-clause-shares c =
    let pre = c.requires in
    dealt_shares pre.3 c.loop.invariant.0 pre.0 (omega arith)
