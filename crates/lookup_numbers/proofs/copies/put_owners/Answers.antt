-- `lookup_numbers::copies::put_owners` meets its contract. The loop's invariant: the first i owners are put, and the rest is as it was.
use native.Mathlib.Omega.{arith}
use Rattle.lookup_numbers.proofs.PutNumbers.{owners_put, owners_all}
use Rattle.lookup_numbers.proofs.copies.put_owners.Goals as goal

pub loop-i-preserved : goal.loop-i-preserved
loop-i-preserved c =
    let a = c.args in
    let l = c.loop-i in
    owners_put a.row.now a.owners.now l.row l.i c.from.result c.requires.1 c.requires.0 c.loop-i-test.true c.from.ensures l.invariant

pub returns : goal.returns
returns c =
    let a = c.args in
    let l = c.loop-i in
    owners_all a.row.now a.owners.now l.row l.i c.requires.1 (omega arith) l.invariant
