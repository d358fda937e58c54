-- `history_steps::applying::apply` meets its contract: what the line says is applied.
use mathlib.Core.Path.{sym}
use Rattle.history_steps.proofs.AppliedLines.{said_as, said_applied}
use Rattle.history_steps.proofs.applying.apply.Goals as goal

pub returns : goal.returns
returns c =
    let a = c.args in
    said_applied a.history c.applied.result a.text.now (said_as a.history c.applied.result (sym c.line.ensures.answer) c.applied.ensures)
