-- `image_rows::rows::intervals` meets its contract.
use Rattle.image_rows.specs.Promises.{interval_numbers}
use Rattle.image_rows.proofs.ToldPools.{listed_unread, listed_short, listed_told, length_interval_numbers}
use Rattle.image_rows.proofs.rows.intervals.Goals as goal

pub returns-in-Err : goal.returns-in-Err
returns-in-Err c =
    rw c.from.ensures (listed_unread interval_numbers c.args.image.now c.args.rows.now _ c.in-Err.ensures.read)

pub returns-then-rows-opened : goal.returns-then-rows-opened
returns-then-rows-opened c =
    let h = c.in-Ok.ensures.opened in
    rw c.from-then-rows-opened.ensures
    (listed_short interval_numbers c.args.rows.now c.in-Ok.made c.in-Ok.ensures.read h.1 (length_interval_numbers h.0) c.if-rows-opened.true)

pub returns : goal.returns
returns c =
    let h = c.in-Ok.ensures.opened in
    listed_told interval_numbers c.args.rows.now c.in-Ok.made c.in-Ok.ensures.read h.1 (length_interval_numbers h.0) c.if-rows-opened.false
    c.put_intervals.ensures
