-- `image_making::replay` meets its contract.
use native.Mathlib.Omega.{arith}
use Rattle.std.proofs.lemmas.Bool.Decides.{nat_tests}
use Rattle.image_making.proofs.StoredPools.{replay_valid_pool, replay_stored}
use Rattle.image_making.proofs.replay.Goals as goal

pub store_made-requires : goal.store_made-requires
store_made-requires c =
    (replay_valid_pool c.args.text.now c.pool_after.result c.pool_after.ensures, grind (arith, nat_tests))

pub returns : goal.returns
returns c =
    replay_stored c.args.text.now c.pool_after.result c.pool_after.ensures c.args.image.now c.args.answer.now _
    (grind (arith, nat_tests)) c.store_made.ensures
