-- `valid_pools::opening::open` meets its contract: a pool with a number in an unused place is not valid.
use Rattle.pools.proofs.ValidParts.{valid_cleared}
use Rattle.valid_pools.proofs.opening.open.Goals as goal

pub returns-then-not-cleared-clause-valid : goal.returns-then-not-cleared-clause-valid
returns-then-not-cleared-clause-valid c =
    λ v. (rw c.if-not-cleared.true at c.cleared.ensures) (valid_cleared _ v)
