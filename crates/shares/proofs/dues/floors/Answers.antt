-- `shares::dues::floors` meets its contract. The loop's invariant: the floors of the rows passed are stored, and what is left
-- and all floors are the range and the floors of the rows left.
use native.Mathlib.Omega.{arith}
use borrow.Author.Rules.{rules}
use Rattle.slicing.proofs.Limits.{product_size}
use Rattle.shares.proofs.DeviceCapacities.{capacity_most}
use Rattle.shares.proofs.DeviceDues.{floors_step, floors_most}
use Rattle.shares.proofs.dues.floors.Goals as goal

pub overflow_mul-quota : goal.overflow_mul-quota
overflow_mul-quota c =
    let most = capacity_most c.args.ids.now c.args.capacities.now c.args.n c.requires.n_bound.2 in
    omega (arith, product_size c.requires.n_bound.1 (most c.loop-i.i c.loop-i-test.true))

pub overflow_sub-left : goal.overflow_sub-left
overflow_sub-left c =
    let args = c.args in
    omega (
      arith,
      floors_step args.range args.c args.ids.now args.capacities.now c.loop-i.i args.n c.loop-i-test.true,
      floors_most args.range args.c args.ids.now args.capacities.now args.n c.requires.c_value.0 c.requires.c_value.1,
    )

pub loop-i-preserved : goal.loop-i-preserved
loop-i-preserved c =
    let args = c.args in
    let step = floors_step args.range args.c args.ids.now args.capacities.now c.loop-i.i args.n c.loop-i-test.true in
    let most = floors_most args.range args.c args.ids.now args.capacities.now args.n c.requires.c_value.0 c.requires.c_value.1 in
    (search rules, search rules, omega (arith, step, most))
