-- Laws of the words of a block, section 5.2.1 of FIPS 180-4.
--
--   words_from_suc   n + 1 words in a row are n and one more at the end
use mathlib.Core.Path.{◌≡◌, ap}
use mathlib.Core.List.{List, [], ◌∷◌, ◌++◌}
use Prim.Native.Nat.{ℕ, zero, suc, ◌+◌, ◌*◌}
use native.Mathlib.Omega.{arith}
use Rattle.sha1_blocks.specs.Fips180.{word, words_from}

pub words_from_suc : (p : List ℕ) (i n : ℕ) → words_from p i (suc n) ≡ words_from p i n ++ word p (i + 4 * n) ∷ []
words_from_suc p i zero = let e : i + 4 * 0 ≡ i = omega arith in rw e
words_from_suc p i (suc n) =
    let e : i + 4 * suc n ≡ i + 4 + 4 * n = omega arith in
    rw e (ap (λ ws. word p i ∷ ws) (words_from_suc p (i + 4) n))
