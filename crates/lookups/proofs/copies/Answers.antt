-- `lookups::copies` meets its contract: 2 first, then what is found in the arrays of a valid pool.
use Rattle.lookups.proofs.Promised.{copies_in, copied_two, copied_in}
use Rattle.lookups.proofs.copies.Goals as goal

pub returns-then-not-valid : goal.returns-then-not-valid
returns-then-not-valid c =
    copied_two (rw c.if-not-valid.true at c.valid.ensures) c.refused.ensures

pub returns : goal.returns
returns c =
    let a = c.args in
    copied_in a.pool.now (rw c.if-not-valid.false at c.valid.ensures) a.block a.k a.counters _ (copies_in c.of.ensures c.copies.ensures)
