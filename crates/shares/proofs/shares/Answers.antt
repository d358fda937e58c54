-- `shares::shares` meets its contract: the rule in force is greatest divisors.
use Rattle.slicing.specs.ShareRule.{shares}
use Rattle.shares.proofs.shares.Goals as goal

pub returns-clause-shares : goal.returns-clause-shares
unfolding shares
returns-clause-shares c =
    c.shares.ensures.shares
