-- `demand3::run_image` meets its contract: the pool of an accepted image is an opening.
use Rattle.demand3.specs.Openings.{image_pool}
use Rattle.demand3.proofs.Runs.{opened_by}
use Rattle.demand3.proofs.run_image.Goals as goal

pub returns : goal.returns
returns c =
    opened_by _ _ _ _ _ _ _ c.read.result c.read.ensures (λ z. image_pool c.read.ensures z) c.run_on.ensures
