-- `valid_pools::finding::find_device` meets its contract: each return by the answers that led there.
use mathlib.Core.Path.{sym, ◌∙◌}
use Rattle.opened.proofs.OpenPools.{open_few, open_rising, open_ascending}
use Rattle.valid_pools.proofs.FoundDevices.{found_two, found_five, found_present}
use Rattle.valid_pools.proofs.finding.find_device.Goals as goal

pub returns-then-outside : goal.returns-then-outside
returns-then-outside c =
    found_two _ _ (sym c.outside.ensures ∙ c.if-outside.true)

pub find-requires : goal.find-requires
find-requires c =
    let h = c.requires in (open_few h, open_ascending h)

pub returns-in_default : goal.returns-in_default
returns-in_default c =
    found_five _ _ (sym c.outside.ensures ∙ c.if-outside.false) (c.in_default.ensures.1 _)

pub sum-requires : goal.sum-requires
sum-requires c =
    let h = c.requires in (open_few h, open_rising h)

pub returns : goal.returns
returns c =
    rw c.sum.ensures (found_present c.requires _ _ c.in-Ok.ensures.1 c.in-Ok.ensures.2 (sym c.outside.ensures ∙ c.if-outside.false))
