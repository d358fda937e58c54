-- `image_lookups::copying::copies` meets its contract.
use Rattle.lookups.proofs.Promised.{copies_in}
use Rattle.image_lookups.proofs.CopiedCalls.{one_copied}
use Rattle.image_lookups.proofs.copying.copies.Goals as goal

pub returns : goal.returns
returns c =
    one_copied c.args.image.now c.args.block c.args.k c.args.tally.now c.args.row.now c.read-made.result c.read-made.ensures
    c.if-tally-lt2.false c.if-row-lt-ROW.false c.counters_of-counters.result c.copies-answer.result _ _ c.if-made-gt0.false c.counters_of-counters.ensures
    (copies_in c.of.ensures c.copies-answer.ensures) c.put_row.ensures c.put_counters.ensures
