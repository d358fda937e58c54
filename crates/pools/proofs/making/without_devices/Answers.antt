-- `pools::making::without_devices` meets its contract: the pool of a fresh state is zeros.
use mathlib.Core.Path.{refl}
use Rattle.pools.specs.Pools.{pool_of}
use Rattle.pools.proofs.making.without_devices.Goals as goal

pub returns : goal.returns
unfolding pool_of
returns c =
    refl
