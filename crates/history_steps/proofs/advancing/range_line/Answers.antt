-- `history_steps::advancing::range_line` meets its contract: the range is within its limits, and comes first.
use Rattle.history_steps.proofs.AdvancedLines.{refused_range, advanced_range}
use Rattle.history_steps.proofs.advancing.range_line.Goals as goal

pub returns-then-begun : goal.returns-then-begun
returns-then-begun c = λ pool table l. refused_range _ _ _ table c.if-begun.true

pub returns : goal.returns
returns c = λ pool table l. advanced_range _ _ _ table c.if-begun.false _ (c.without_devices.ensures table l)
