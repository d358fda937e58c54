-- `lookup_numbers::copies::put_row` meets its contract.
use mathlib.Core.Path.{◌≡◌}
use lib.ListN.{length}
use borrow.Author.Rules.{rules}
use Rattle.lookup_numbers.proofs.PutNumbers.{put_row}
use Rattle.lookup_numbers.proofs.copies.put_row.Goals as goal

pub returns : goal.returns
returns c =
    let p = c.put_owners in
    let l : length c.args.answer.owners ≡ 8 = search rules in
    put_row c.args.row.now c.args.answer.owners p.new.row c.args.answer.refusal c.args.answer.probes l c.requires p.ensures
