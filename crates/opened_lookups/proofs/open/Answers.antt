-- `opened_lookups::open` meets its contract.
use mathlib.Core.Path.{◌≡◌, ap}
use mathlib.Core.List.{◌++◌}
use native.Mathlib.Omega.{arith}
use lib.ListN.{length, drop, length-take}
use borrow.Author.Rules.{rules}
use Rattle.opened_lookups.proofs.OpenedPools.{opened_stored}
use Rattle.opened_lookups.proofs.open.Goals as goal

pub copy_from_slice-requires : goal.copy_from_slice-requires
copy_from_slice-requires c =
    let l : length c.read-made.result.pool.starts ≡ 4096 = search rules in
    omega (arith, length-take 4096 c.args.starts.now)

pub copy_from_slice-requires-2 : goal.copy_from_slice-requires-2
copy_from_slice-requires-2 c =
    let l : length c.read-made.result.pool.owners ≡ 4096 = search rules in
    omega (arith, length-take 4096 c.args.owners.now)

pub returns : goal.returns
returns c =
    let a = c.args in
    opened_stored a.image.now a.starts.now a.owners.now a.numbers.now c.read-made.result c.read-made.ensures
    c.if-starts-lt-MAX_INTERVALS.false c.if-owners-lt-MAX_INTERVALS.false c.if-numbers-lt3.false _ _ _ c.if-made-gt0.false
    (ap (λ ys. ys ++ drop 4096 a.starts.now) c.copy_from_slice.ensures.after) (ap (λ ys. ys ++ drop 4096 a.owners.now) c.copy_from_slice-2.ensures.after)
    c.put-2.ensures
