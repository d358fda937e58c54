-- `largest_remainder::shares` meets its contract. The loop's invariant: the rows passed have their shares, and the others their floors.
use mathlib.Core.Path.{◌≡◌, ap, ◌∙◌}
use Prim.Native.Nat.{◌+◌}
use native.Mathlib.Omega.{arith}
use borrow.Author.Count.{below_more}
use borrow.Author.Rules.{rules}
use lib.Seq.{get_or-set_same, get_or-set_other}
use Rattle.slicing_core.specs.Rows.{at}
use Rattle.shares.proofs.DeviceCapacities.{capacity_most}
use Rattle.largest_remainder.proofs.RemainderRows.{floor_most, share_more, share_same, rows_shares}
use Rattle.largest_remainder.proofs.shares.Goals as goal
use Rattle.largest_remainder.proofs.shares.Goals.{then-rank-leftover, else-rank-leftover}

pub overflow_add-points : goal.overflow_add-points
overflow_add-points c =
    let args = c.args in
    let i = c.loop-i.i in
    let l = c.loop-i-test.true in
    let most = capacity_most args.ids.now args.capacities.now args.n c.requires.3 i l in
    omega (
      arith,
      c.loop-i.invariant.2 i (omega arith),
      floor_most c.sum-c.ensures c.floors-leftover.ensures c.remainders-left.ensures i l c.requires.2 most,
    )

pub loop-i-preserved : goal.loop-i-preserved
loop-i-preserved c =
    let pass = c.loop-i in
    let inv = pass.invariant in
    let l = c.loop-i-test.true in
    let floor : at pass.points pass.i ≡ at c.floors-leftover.new.into pass.i = inv.2 pass.i (omega arith) in
    let more = share_more c.sum-c.ensures c.floors-leftover.ensures c.remainders-left.ensures pass.i l in
    let same = share_same c.sum-c.ensures c.floors-leftover.ensures c.remainders-left.ensures pass.i l in
    elim c.if-rank-leftover.branch [
      | then-rank-leftover w ↦ rw w.points-is (
        search rules,
        below_more _ _ (λ k m. get_or-set_other pass.points pass.i k (at pass.points pass.i + 1) 0 (λ z. omega arith) ∙ inv.1 k m)
            (get_or-set_same pass.points pass.i (at pass.points pass.i + 1) 0 (omega (arith, inv.0))
            ∙ (ap (λ x. x + 1) floor ∙ more (omega (arith, w.if-rank-leftover.true, c.rank.ensures)))),
        λ k m. get_or-set_other pass.points pass.i k (at pass.points pass.i + 1) 0 (λ z. omega arith) ∙ inv.2 k (omega arith),
      )
      | else-rank-leftover w ↦ rw w.points-is (
        inv.0,
        below_more _ _ inv.1 (floor ∙ same (omega (arith, w.if-rank-leftover.false, c.rank.ensures))),
        λ k m. inv.2 k (omega arith),
      )
    ]

pub returns-clause-shares : goal.returns-clause-shares
returns-clause-shares c =
    let args = c.args in
    rows_shares args.range c.loop-i.points args.ids.now args.capacities.now args.n (λ k m. c.loop-i.invariant.1 k (omega arith))
