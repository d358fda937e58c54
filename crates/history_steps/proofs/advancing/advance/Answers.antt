-- `history_steps::advancing::advance` meets its contract: each line by the function of its kind, and one refused by its text as it is.
use mathlib.Core.Path.{refl}
use Rattle.history_steps.specs.Advances.{refused}
use Rattle.history_steps.proofs.advancing.advance.Goals as goal

pub returns-in-Err-clause-advanced : goal.returns-in-Err-clause-advanced
returns-in-Err-clause-advanced c = rw c.in-Err.is (refused _ refl refl refl)

pub returns-in-Range-clause-advanced : goal.returns-in-Range-clause-advanced
returns-in-Range-clause-advanced c = rw (c.in-Ok.is, c.in-Range.is) (c.range_line.ensures c.args.pool _ c.requires.1.table_size)

pub returns-in-Add-clause-advanced : goal.returns-in-Add-clause-advanced
returns-in-Add-clause-advanced c = rw (c.in-Ok.is, c.in-Add.is) c.change.ensures.advanced

pub returns-in-Remove-clause-advanced : goal.returns-in-Remove-clause-advanced
returns-in-Remove-clause-advanced c = rw (c.in-Ok.is, c.in-Remove.is) c.change-in-Remove.ensures.advanced

pub returns-in-Resize-clause-advanced : goal.returns-in-Resize-clause-advanced
returns-in-Resize-clause-advanced c = rw (c.in-Ok.is, c.in-Resize.is) c.change-in-Resize.ensures.advanced
