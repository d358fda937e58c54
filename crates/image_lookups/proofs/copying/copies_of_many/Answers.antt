-- `image_lookups::copying::copies_of_many` meets its contract.
use native.Mathlib.Omega.{arith}
use Rattle.images.proofs.OnImages.{on_image_valid}
use Rattle.image_lookups.proofs.CopiedCalls.{many_copied}
use Rattle.image_lookups.proofs.copying.copies_of_many.Goals as goal

pub copy_many-after-requires : goal.copy_many-after-requires
copy_many-after-requires c =
    (on_image_valid c.args.image.now c.read-made.result c.read-made.ensures c.if-made-gt0.false, omega (arith, c.if-rows-blocks.false))

pub returns : goal.returns
returns c =
    many_copied c.args.image.now c.args.blocks.now c.args.k c.args.tally.now c.args.rows.now c.read-made.result c.read-made.ensures
    c.if-tally-lt2.false c.if-rows-blocks.false c.counters_of.result c.copy_many-after.result _ _ c.if-made-gt0.false c.counters_of.ensures
    c.copy_many-after.ensures.value c.copy_many-after.ensures.rows c.put_counters.ensures
