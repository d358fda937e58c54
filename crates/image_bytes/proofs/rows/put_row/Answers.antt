-- `image_bytes::rows::put_row` meets its contract: each number is put at its place.
use Rattle.image_bytes.proofs.RowFronts.{row_put}
use Rattle.image_bytes.proofs.rows.put_row.Goals as goal

pub returns : goal.returns
returns c =
    let a = c.args in
    row_put a.row a.rows.now _ _ a.i a.short a.long c.requires (rw (c.places-short_place.ensures.at.0, c.from.ensures) at c.put.ensures) (rw (c.places-short_place.ensures.at.1, c.from-2.ensures) at c.put-2.ensures)
