-- `opened::devices::find` meets its contract: an id is present where its place among rising ids has it, and nowhere else.
use native.Mathlib.Omega.{arith}
use Rattle.slicing_core.proofs.DeviceRows.{position_present, position_absent}
use Rattle.opened.proofs.devices.find.Goals as goal

pub returns-then-ids-row : goal.returns-then-ids-row
returns-then-ids-row c =
    let l = c.if-row-n.true in (c.position-row.ensures, l, c.if-ids-row.true, λ cs. position_present _ cs _ _ _ l c.if-ids-row.true)

pub returns-else-ids-row : goal.returns-else-ids-row
returns-else-ids-row c =
    (c.position-row.ensures, λ cs. position_absent c.position-row.ensures c.requires.1 cs (λ l. c.if-ids-row.false))

pub returns-else-row-n : goal.returns-else-row-n
returns-else-row-n c =
    (c.position-row.ensures, λ cs. position_absent c.position-row.ensures c.requires.1 cs (λ l e. omega (arith, c.if-row-n.false)))
