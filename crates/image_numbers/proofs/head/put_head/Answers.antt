-- `image_numbers::head::put_head` meets its contract: each number stands behind the ones before it.
use Rattle.image_numbers.proofs.Fronts.{head_put}
use Rattle.image_numbers.proofs.head.put_head.Goals as goal

pub returns : goal.returns
returns c =
    let a = c.args in
    head_put a.range a.limit a.n a.q a.buffer.now _ _ _ _ _ _ c.put.ensures c.put-2.ensures c.put-3.ensures c.put-4.ensures
    c.put-5.ensures c.put-6.ensures
