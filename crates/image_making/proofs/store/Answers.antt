-- `image_making::store` meets its contract.
use Rattle.pools.specs.Pools.{state_of}
use Rattle.image_making.proofs.StoredPools.{stored_whole, stored_none}
use Rattle.image_making.proofs.store.Goals as goal

pub returns-in-Ok : goal.returns-in-Ok
returns-in-Ok c =
    stored_whole (state_of c.args.pool) c.args.image.now _ c.args.answer.now c.in-Ok.ensures.buffer _ c.in-Ok.ensures.answer _ c.put.ensures

pub returns-in-Err : goal.returns-in-Err
returns-in-Err c =
    rw c.from.ensures
    (stored_none (state_of c.args.pool) c.args.image.now _ c.args.answer.now c.in-Err.ensures.buffer _ c.in-Err.ensures.answer _ c.put-in-Err.ensures)
