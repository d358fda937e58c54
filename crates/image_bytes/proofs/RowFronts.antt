-- Rows of an image put behind one another.
--
-- length_pair_bytes, row_put (one row), rows_bytes_none, rows_bytes_put (one row more)
use mathlib.Core.Path.{◌≡◌, refl, ◌∙◌}
use mathlib.Core.List.{List, ◌++◌, append_assoc, append-nil}
use Prim.Native.Nat.{ℕ, zero, suc, ◌+◌, ◌*◌, ◌≤◌}
use native.Mathlib.Omega.{arith}
use native.Mathlib.Nat.{zero-add, add-zero}
use lib.ListN.{length, take, drop, length-append}
use Rattle.sha1_blocks.specs.Fips180.{bytes}
use Rattle.slicing_core.specs.Rows.{at}
use Rattle.slicing_core.proofs.Fronts.{front_put}
use Rattle.image_bytes.specs.declared.rows.Row.{Row}
use Rattle.image_bytes.specs.declared.rows.Row.TheVariants.{Device, Interval}
use Rattle.image_numbers.proofs.ImageSizes.{length_bytes}
use Rattle.image_numbers.proofs.Fronts.{put_parts, put_parts_back}
use Rattle.image_bytes.specs.RowBytes.{pair_bytes, short_place, long_place, row_bytes, rows_bytes}

pub length_pair_bytes : (a b : ℕ) (xs ys : List ℕ) (i n : ℕ) → a + b ≡ 6 → length (pair_bytes a b xs ys i n) ≡ 6 * n
length_pair_bytes a b xs ys i zero w = refl
length_pair_bytes a b xs ys i (suc n) w =
    let row : List ℕ = bytes a (at xs i) ++ bytes b (at ys i) in
    omega (
      arith,
      length-append row (pair_bytes a b xs ys (suc i) n),
      length-append (bytes a (at xs i)) (bytes b (at ys i)),
      length_bytes a (at xs i),
      length_bytes b (at ys i),
      length_pair_bytes a b xs ys (suc i) n w,
    )

pair_bytes_snoc : (a b : ℕ) (xs ys : List ℕ) (i n : ℕ)
    → pair_bytes a b xs ys i (n + 1) ≡ pair_bytes a b xs ys i n ++ (bytes a (at xs (i + n)) ++ bytes b (at ys (i + n)))
pair_bytes_snoc a b xs ys i zero = rw (append-nil, add-zero)
pair_bytes_snoc a b xs ys i (suc n) =
    let e : suc n + 1 ≡ suc (n + 1) = omega arith in
    let f : i + suc n ≡ suc i + n = omega arith in
    rw (e, f, pair_bytes_snoc a b xs ys (suc i) n) (simp append_assoc)

length_rows_bytes : (r : Row) (xs ys : List ℕ) (i n : ℕ) → length (rows_bytes r xs ys i n) ≡ 6 * n
length_rows_bytes Device xs ys i n = length_pair_bytes 2 4 xs ys i n refl
length_rows_bytes Interval xs ys i n = length_pair_bytes 4 2 ys xs i n refl

rows_bytes_snoc : (r : Row) (xs ys : List ℕ) (i n : ℕ)
    → rows_bytes r xs ys i (n + 1) ≡ rows_bytes r xs ys i n ++ row_bytes r (at xs (i + n)) (at ys (i + n))
rows_bytes_snoc Device xs ys i n = pair_bytes_snoc 2 4 xs ys i n
rows_bytes_snoc Interval xs ys i n = pair_bytes_snoc 4 2 ys xs i n

pub rows_bytes_none : (r : Row) (xs ys before : List ℕ) → before ≡ rows_bytes r xs ys 0 0 ++ before
rows_bytes_none Device xs ys before = refl
rows_bytes_none Interval xs ys before = refl

-- the two numbers of a row put at their places
pub row_put : (r : Row) (before after after' : List ℕ) (i x y : ℕ) → i + 6 ≤ length before
    → after ≡ take (i + short_place r) before ++ bytes 2 x ++ drop (i + short_place r + 2) before
    → after' ≡ take (i + long_place r) after ++ bytes 4 y ++ drop (i + long_place r + 4) after
    → after' ≡ take i before ++ row_bytes r x y ++ drop (i + 6) before
row_put Device before after after' i x y h e f =
    put_parts before (bytes 2 x) (bytes 4 y) after after' i 2 4 refl (omega arith) (rw add-zero at e) f
row_put Interval before after after' i x y h e f =
    put_parts_back before (bytes 4 y) (bytes 2 x) after after' i 4 2 (omega arith) e (rw add-zero at f)

-- one row more, put behind i rows
pub rows_bytes_put : (r : Row) (xs ys before after after' : List ℕ) (i : ℕ) → after ≡ rows_bytes r xs ys 0 i ++ drop (6 * i) before
    → after' ≡ take (6 * i) after ++ row_bytes r (at xs i) (at ys i) ++ drop (6 * i + 6) after
    → after' ≡ rows_bytes r xs ys 0 (i + 1) ++ drop (6 * (i + 1)) before
rows_bytes_put r xs ys before after after' i h m =
    let done : List ℕ = rows_bytes r xs ys 0 i in
    let d : 6 * i + 6 ≡ 6 * (i + 1) = omega arith in
    front_put before done (row_bytes r (at xs i) (at ys i)) after after' (6 * i) 6 (length_rows_bytes r xs ys 0 i) h m
    ∙ rw (d, rows_bytes_snoc r xs ys 0 i, zero-add)
