-- `opened_lookups::opened_owner` meets its contract.
use mathlib.Core.Path.{sym, ◌∙◌}
use native.Mathlib.Omega.{arith}
use lib.ListN.{length}
use borrow.Author.Tests.{eqb-false}
use Rattle.lookups.proofs.Promised.{owner_in}
use Rattle.opened_lookups.proofs.OpenedLookups.{owned_in_told}
use Rattle.opened_lookups.proofs.opened_owner.Goals as goal

pub returns : goal.returns
returns c =
    let a = c.args in
    owned_in_told a.starts.now a.owners.now a.numbers.now a.point a.answer.now
    (omega (arith, eqb-false (length a.answer.now) 0 (sym c.is_empty.ensures ∙ c.if-is_empty.false)))
    c.owner-found.result _ (owner_in c.table_of.ensures c.owner-found.ensures) c.put_owner.ensures
