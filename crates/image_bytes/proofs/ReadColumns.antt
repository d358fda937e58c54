-- Columns of the rows of an image: what the loop that reads rows and the calls of it need.
--
-- column: column_snoc (one row more), length_column, column_drop (without the first bytes), column_from (in a part of the bytes)
-- arrays: Filled (an array holds the numbers of the first rows, and is as it was behind), filled_more
-- padded: column_padded (an array that held zeros)
use mathlib.Core.Path.{◌≡◌, refl, sym, ap, ◌∙◌}
use mathlib.Core.List.{List, [], ◌∷◌, ◌++◌}
use Prim.Native.Nat.{ℕ, zero, suc, ◌+◌, ◌*◌, ◌-◌, ◌<◌}
use native.Mathlib.Omega.{arith}
use native.Mathlib.Nat.{add-zero, add_assoc}
use native.Mathlib.Numerals.{add-one}
use lib.ListN.{length, set, take, drop, replicate, length-drop, length-set}
use lib.Seq.{take_all, drop-cons, set_at, append_snoc}
use Rattle.std.proofs.lemmas.List.{drop-replicate}
use Rattle.pools.specs.Pools.{padded}
use Rattle.slicing_core.specs.Rows.{at}
use Rattle.image_numbers.specs.Format.{number_at, column}
use Rattle.image_numbers.proofs.ByteNumbers.{number_at_drop}

pub column_snoc : (xs : List ℕ) (k i n : ℕ) → column xs k i (n + 1) ≡ column xs k i n ++ (number_at xs (i + 6 * n) k ∷ [])
column_snoc xs k i zero = rw add-zero
column_snoc xs k i (suc n) =
    let e : suc n + 1 ≡ suc (n + 1) = omega arith in
    let f : i + 6 * suc n ≡ i + 6 + 6 * n = omega arith in
    rw (e, f, column_snoc xs k (i + 6) n)

pub length_column : (xs : List ℕ) (k i n : ℕ) → length (column xs k i n) ≡ n
length_column xs k i zero = refl
length_column xs k i (suc n) = ap suc (length_column xs k (i + 6) n)

pub column_drop : (a : ℕ) (xs : List ℕ) (k i n : ℕ) → column (drop a xs) k i n ≡ column xs k (a + i) n
column_drop a xs k i zero = refl
column_drop a xs k i (suc n) =
    rw (number_at_drop xs a i k, column_drop a xs k (i + 6) n, add_assoc)

-- the bytes from place a on, as a part of a slice gives them
abbrev pub from : ℕ → List ℕ → List ℕ
from a xs = take (length xs - a) (drop a xs)

pub column_from : (a : ℕ) (xs : List ℕ) (k i n : ℕ) → column (from a xs) k i n ≡ column xs k (a + i) n
column_from a xs k i n = rw (take_all (length xs - a) (drop a xs) (omega (arith, length-drop a xs))) (column_drop a xs k i n)

-- ---- an array that is filled with the numbers in k bytes of the rows, from the first row on; in each row the number begins at place p

module _ (k p : ℕ) (rows before : List ℕ) where
  pub record Filled (ys : List ℕ) (n : ℕ) : Type 0 where
    pub size : length ys ≡ length before
    pub parts : ys ≡ column rows k p n ++ drop n before

  -- one row more
  pub filled_more : (ys : List ℕ) (n v : ℕ) → n < length before → Filled ys n → v ≡ number_at rows (6 * n + p) k → Filled (set ys n v) (n + 1)
  filled_more ys n v h f g =
      let e : 6 * n + p ≡ p + 6 * n = omega arith in
      let x : ℕ = number_at rows (p + 6 * n) k in
      let rest : List ℕ = drop (suc n) before in
      record {
        size = length-set ys n v ∙ f.size;
        parts =
            rw (f.parts, g, e, column_snoc rows k p n, add-one, drop-cons before n 0 h)
            (set_at (column rows k p n) (at before n) rest x n (length_column rows k p n) ∙ sym (append_snoc (column rows k p n) x rest));
      }

-- an array that held zeros
pub column_padded : (N k p : ℕ) (rows ys : List ℕ) (n : ℕ) → ys ≡ column rows k p n ++ drop n (replicate N 0) → ys ≡ padded N (column rows k p n)
column_padded N k p rows ys n f =
    f ∙ ap (λ zs. column rows k p n ++ zs) (drop-replicate n N 0 ∙ ap (λ m. replicate (N - m) 0) (sym (length_column rows k p n)))
