-- Step 1 of section 6.1.2 as code does it that has places for all eighty words from the start.
--
--   extended w t n     w with W_t to W_(t + n - 1) formed in their places, each from the words before it
use Rattle.std.specs.Prelude.{ℕ, zero, suc, ◌+◌, List, slice_set}
use Rattle.sha1_blocks.specs.Fips180.{next}

unfoldable pub extended : List ℕ → ℕ → ℕ → List ℕ
extended w t zero = w
extended w t (suc n) = slice_set (extended w t n) (t + n) (next (extended w t n) (t + n))
