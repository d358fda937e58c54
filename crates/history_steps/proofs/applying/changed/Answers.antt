-- `history_steps::applying::changed` meets its contract: a refused plan of the change, on the pool opened, refuses the line.
use borrow.Author.Tests.{not-false}
use Rattle.history_steps.proofs.AppliedLines.{changed_declined}
use Rattle.history_steps.proofs.applying.changed.Goals as goal

pub returns-in-Err : goal.returns-in-Err
returns-in-Err c =
    let h = c.args.history in
    rw c.refused-in-Err.ensures (changed_declined h (not-false _ c.if-not-history.false) c.in-Some.ensures.valid c.in-Some.opened _ c.in-Some.ensures.opened.1 c.args.call c.in-Err.ensures.planned)
