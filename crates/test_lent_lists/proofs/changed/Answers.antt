-- `test_lent_lists::changed` meets its contract: what came back of the part that was lent, and the rest as it was.
use mathlib.Core.Path.{refl}
use Rattle.test_lent_lists.proofs.Afterwards.{lends_front}
use Rattle.test_lent_lists.proofs.changed.Goals as goal

pub returns-in-Add : goal.returns-in-Add
returns-in-Add c =
    lends_front _ c.in-Add.is refl c.min.ensures c.add-answer.auto.list c.add-answer.ensures

pub returns-in-Remove : goal.returns-in-Remove
returns-in-Remove c =
    lends_front _ c.in-Remove.is refl c.min.ensures c.remove-answer.auto.list c.remove-answer.ensures

pub returns-in-Resize : goal.returns-in-Resize
returns-in-Resize c =
    lends_front _ c.in-Resize.is refl c.min.ensures c.resize-answer.auto.list c.resize-answer.ensures
