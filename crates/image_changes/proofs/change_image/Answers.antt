-- `image_changes::change_image` meets its contract.
use Rattle.calls.specs.Calls.{change_of}
use Rattle.image_changes.proofs.MovedLists.{changed_unread, changed_read}
use Rattle.image_changes.proofs.change_image.Goals as goal

pub returns-in-Err : goal.returns-in-Err
returns-in-Err c =
    rw c.from-in-Err.ensures
    (changed_unread _ _ _ _ c.args.answer.now c.if-answer-lt3.false _ c.in-Err.ensures.read c.put.ensures)

pub returns-in-Ok : goal.returns-in-Ok
returns-in-Ok c =
    changed_read c.args.image.now (change_of c.args.call) c.args.next.now c.args.list.now c.args.answer.now
    c.if-answer-lt3.false c.in-Ok.made c.in-Ok.ensures.read c.in-Ok.ensures.opened.1 c.change.ensures
