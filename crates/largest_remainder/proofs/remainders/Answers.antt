-- `largest_remainder::remainders` meets its contract. The loop's invariant: what the rounding of the rows passed leaves is stored.
use native.Mathlib.Omega.{arith}
use Rattle.slicing.proofs.Limits.{product_size}
use Rattle.shares.proofs.DeviceCapacities.{capacity_most}
use Rattle.largest_remainder.proofs.remainders.Goals as goal

pub overflow_mul-into : goal.overflow_mul-into
overflow_mul-into c =
    let most = capacity_most c.args.ids.now c.args.capacities.now c.args.n c.requires.2 in
    omega (arith, product_size c.requires.1 (most c.loop-i.i c.loop-i-test.true))
