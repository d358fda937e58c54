-- `lookup_core::Columns::owner_found` meets its contract: `most` is the number of intervals, cut off at the arrays' room.
use mathlib.Core.Path.{◌∙◌}
use Rattle.lookup_core.proofs.HalvingSteps.{owner_found_none, owner_found_some}
use Rattle.lookup_core.proofs.Columns.owner_found.Goals as goal

pub returns-then-most-eq0-clause-value : goal.returns-then-most-eq0-clause-value
returns-then-most-eq0-clause-value c =
    rw (← c.min-most.ensures) (owner_found_none _ _ _ _ c.if-most-eq0.true)

pub returns-clause-value : goal.returns-clause-value
returns-clause-value c =
    rw (← c.min-most.ensures) (c.from.ensures ∙ owner_found_some _ _ _ _ _ c.if-most-eq0.false c.place-i.ensures.1)
