-- `image_numbers::numbers::number` meets its contract: a word whose low N bytes are those that were copied.
use mathlib.Core.Path.{◌≡◌}
use Prim.Native.Nat.{ℕ, ◌<◌}
use native.Mathlib.Omega.{arith}
use Rattle.image_numbers.proofs.ByteNumbers.{number_at_below, word_number}
use Rattle.image_numbers.proofs.numbers.number.Goals as goal

-- what equals a number has its bound
bounded : {r n most : ℕ} → r ≡ n → n < most → (r ≡ n) × (r < most)
bounded e h = (e, rw e h)

pub returns : goal.returns
returns g c =
    let xs = c.args.image.now in
    bounded (word_number xs _ c.args.i g.row.N _ c.requires.0 c.copy_from_slice.ensures.after (grind arith))
    (number_at_below xs c.args.i g.row.N (λ i. omega (arith, c.type_inv.image i)))
