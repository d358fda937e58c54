-- `image_making::fresh` meets its contract.
use native.Mathlib.Omega.{arith}
use Rattle.std.proofs.lemmas.Bool.Decides.{nat_tests}
use Rattle.image_making.proofs.StoredPools.{fresh_valid_pool, fresh_stored}
use Rattle.image_making.proofs.fresh.Goals as goal

pub store_made-requires : goal.store_made-requires
store_made-requires c =
    (fresh_valid_pool c.args.range c.args.limit c.fresh.result c.fresh.ensures, grind (arith, nat_tests))

pub returns : goal.returns
returns c =
    fresh_stored c.args.range c.args.limit c.fresh.result c.fresh.ensures c.args.image.now c.args.answer.now _
    (grind (arith, nat_tests)) c.store_made.ensures
