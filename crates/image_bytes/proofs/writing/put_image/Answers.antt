-- `image_bytes::writing::put_image` meets its contract: the head, the device rows and the interval rows behind one another are the image.
use native.Mathlib.Omega.{arith}
use Prim.Native.Nat.{◌+◌, ◌*◌, ◌-◌}
use lib.ListN.{length, drop, length-take, length-drop}
use Rattle.pools.proofs.ValidParts.{valid_limited}
use Rattle.slicing_core.proofs.Fronts.{part_room}
use Rattle.image_bytes.proofs.WrittenImages.{image_put}
use Rattle.image_bytes.proofs.writing.put_image.Goals as goal

pub put_head-requires : goal.put_head-requires
put_head-requires c =
    let l = valid_limited c.args.pool c.requires.0 in
    (omega (arith, c.requires.1), omega (arith, l.room_most), omega (arith, l.few), omega (arith, l.fits, l.room_most))

pub put_devices-requires : goal.put_devices-requires
put_devices-requires c =
    let b = c.put_head.new.buffer in
    ((valid_limited c.args.pool c.requires.0).few, omega (arith, c.requires.1, length-take (length b - 19) (drop 19 b), length-drop 19 b))

pub put_intervals-requires : goal.put_intervals-requires
put_intervals-requires c =
    let l = valid_limited c.args.pool c.requires.0 in
    let b = c.put_head.new.buffer in
    (omega (arith, l.fits, l.room_most), part_room b c.put_devices.new.rows 19 (19 + 6 * c.args.pool.devices) (6 * c.args.pool.intervals) (omega (arith, c.requires.1)) (omega arith) (omega (arith, c.requires.1)))

pub returns : goal.returns
returns c =
    image_put c.args.pool c.requires.0 c.args.buffer.now _ _ _ (rw c.from.ensures at c.put_head.ensures) c.put_devices.ensures c.put_intervals.ensures
