-- `image_rows::numbering::numbers` meets its contract.
use Rattle.image_rows.proofs.ToldPools.{numbered_told}
use Rattle.image_rows.proofs.numbering.numbers.Goals as goal

pub returns : goal.returns
returns c =
    let a = c.args in
    numbered_told a.image.now a.answer.now c.read-made.result c.read-made.ensures c.if-answer-lt4.false _ c.if-made-gt0.false (rw c.from-2.ensures at c.put-2.ensures)
