-- `shares::capacities::sum` meets its contract: the sum of the first n numbers is that of the devices' capacities, which fits.
use mathlib.Core.Path.{◌≡◌, ◌∙◌}
use Prim.Native.Nat.{◌<◌}
use native.Mathlib.Omega.{arith}
use borrow.Author.Rules.{rules}
use lib.ListN.{take}
use Rattle.std.specs.List.{sum}
use Rattle.shares.proofs.DeviceCapacities.{sum_most, capacities_taken}
use Rattle.shares.proofs.capacities.sum.Goals as goal

pub sum-requires-clause-fits : goal.sum-requires-clause-fits
sum-requires-clause-fits c =
    let args = c.args in
    let fits : sum (take args.n args.capacities.now) < 18446744073709551616 =
    omega (arith, capacities_taken args.ids.now args.capacities.now args.n (omega arith), sum_most args.ids.now args.capacities.now args.n c.requires.1 c.requires.0) in
    search rules

pub returns : goal.returns
returns c =
    let args = c.args in
    let e : c.sum.result ≡ sum (take args.n args.capacities.now) = search rules in
    e ∙ capacities_taken args.ids.now args.capacities.now args.n (omega arith)
