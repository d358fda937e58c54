-- `image_numbers::numbers::put` meets its contract: the low N bytes of the word stand in the place of those that were there.
use native.Mathlib.Omega.{arith}
use lib.Seq.{take-take}
use Rattle.image_numbers.proofs.Fronts.{put_low}
use Rattle.image_numbers.proofs.numbers.put.Goals as goal

pub returns : goal.returns
returns g c =
    -- the bytes that are stored; `take-take` is for a part of a part (docs/DECISIONS.md 96)
    put_low c.args.buffer.now _ c.args.i g.row.N c.args.x c.requires.0 (grind (arith, take-take))
