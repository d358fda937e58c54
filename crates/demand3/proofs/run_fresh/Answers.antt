-- `demand3::run_fresh` meets its contract: an accepted fresh pool is an opening.
use Rattle.demand3.specs.Openings.{fresh_pool}
use Rattle.demand3.proofs.Runs.{opened_by}
use Rattle.demand3.proofs.run_fresh.Goals as goal

pub returns : goal.returns
returns c =
    opened_by _ _ _ _ _ _ _ c.fresh.result c.fresh.ensures (λ z. fresh_pool c.fresh.ensures z) c.run_on.ensures
