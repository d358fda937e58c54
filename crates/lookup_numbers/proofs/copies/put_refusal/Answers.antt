-- `lookup_numbers::copies::put_refusal` meets its contract.
use Rattle.lookup_numbers.proofs.PutNumbers.{put_zeros}
use Rattle.lookup_numbers.proofs.copies.put_refusal.Goals as goal

pub returns : goal.returns
returns c =
    let p = c.put_owners in
    put_zeros c.args.row.now p.new.row c.args.refusal c.requires p.ensures
