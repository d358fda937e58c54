-- `image_lookups::owning::owner` meets its contract.
use mathlib.Core.Path.{sym, ◌∙◌}
use Prim.Native.Nat.{◌≤◌}
use native.Mathlib.Omega.{arith}
use lib.ListN.{length}
use borrow.Author.Tests.{eqb-false}
use Rattle.lookups.proofs.Promised.{owner_in}
use Rattle.image_lookups.proofs.ToldOwners.{owned_told}
use Rattle.image_lookups.proofs.owning.owner.Goals as goal

pub returns : goal.returns
returns c =
    let a = c.args in
    let l : 1 ≤ length a.answer.now = omega (arith, eqb-false (length a.answer.now) 0 (sym c.is_empty.ensures ∙ c.if-is_empty.false)) in
    owned_told a.image.now a.point a.answer.now c.read-made.result c.read-made.ensures l
    c.owner-found.result _ c.if-made-gt0.false (owner_in c.of.ensures c.owner-found.ensures) c.put_owner.ensures
