-- `image_lookups::copying::copy_many` meets its contract. The loop's invariant: the rows and the counters of the first i blocks.
use mathlib.Core.Path.{◌≡◌}
use lib.ListN.{length, get_or}
use borrow.Author.Rules.{rules}
use Rattle.lookups.proofs.Promised.{copies_in}
use Rattle.pools.specs.Pools.{state_of}
use Rattle.image_lookups.proofs.CopiedRows.{answered_arrays, many_more, many_all}
use Rattle.image_lookups.proofs.copying.copy_many.Goals as goal

pub loop-i-preserved : goal.loop-i-preserved
loop-i-preserved c =
    let l = c.loop-i in
    let r = c.copies-answer.result in
    let eight : length r.owners ≡ 8 = search rules in
    many_more (state_of c.args.pool) c.args.k c.args.blocks.now c.args.rows.now c.args.counters l.rows l.after l.i l.invariant c.loop-i-test.true c.requires.1 r eight
    (answered_arrays c.args.pool c.requires.0 (get_or c.args.blocks.now l.i 0) c.args.k l.after r (copies_in c.of-table.ensures c.copies-answer.ensures)) c.put_row.new.row c.put_row.auto.row c.put_row.ensures

pub returns : goal.returns
returns c =
    let l = c.loop-i in let m = many_all (state_of c.args.pool) c.args.k c.args.blocks.now c.args.rows.now c.args.counters l.rows l.after l.i l.invariant c.loop-i-test.false in record { value = m.1; rows = m.0 }
