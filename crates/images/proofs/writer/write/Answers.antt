-- `images::writer::write` meets its contract: 2, then what `store` answers.
use Rattle.images.proofs.WriteAnswers.{written_valid}
use Rattle.images.proofs.writer.write.Goals as goal

pub returns : goal.returns
returns c =
    written_valid _ (rw c.if-not-valid.false at c.valid.ensures) c.args.buffer.now _ _ (c.store.ensures.answer, c.store.ensures.buffer)
