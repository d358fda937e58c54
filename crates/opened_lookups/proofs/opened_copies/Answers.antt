-- `opened_lookups::opened_copies` meets its contract.
use Rattle.lookups.proofs.Promised.{copies_in}
use Rattle.opened_lookups.proofs.OpenedLookups.{one_in_copied}
use Rattle.opened_lookups.proofs.opened_copies.Goals as goal

pub returns : goal.returns
returns c =
    let a = c.args in
    one_in_copied a.starts.now a.owners.now a.numbers.now a.block a.k a.tally.now a.row.now
    c.if-tally-lt2.false c.if-row-lt-ROW.false c.counters_of-counters.result c.copies-answer.result _ _
    c.counters_of-counters.ensures (copies_in c.table_of.ensures c.copies-answer.ensures) c.put_row.ensures c.put_counters.ensures
