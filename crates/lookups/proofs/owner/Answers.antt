-- `lookups::owner` meets its contract: 2 first, then what is found in the arrays of a valid pool.
use Rattle.lookups.proofs.Promised.{owner_in, looked_two, looked_in}
use Rattle.lookups.proofs.owner.Goals as goal

pub returns-then-not-valid : goal.returns-then-not-valid
returns-then-not-valid c =
    looked_two (rw c.if-not-valid.true at c.valid.ensures)

pub returns : goal.returns
returns c =
    let a = c.args in
    looked_in a.pool.now (rw c.if-not-valid.false at c.valid.ensures) a.point _ (owner_in c.of.ensures c.owner.ensures)
