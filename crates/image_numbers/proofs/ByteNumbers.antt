-- Numbers in bytes, for every width.
--
-- Bytes xs                 every place of xs holds a byte
-- bytes: bytes_low (they depend on the number modulo 2 ^ (8 * k) alone)
-- number_at: number_at_append (behind a front), number_at_zeros (behind zeros), number_at_take, number_at_drop, number_at_below; number_at_join, joined
-- (a number of two parts)
-- a word from a part of a list: word_number
-- both ways: bytes_number_at, number_at_low (of any number), number_at_bytes (of one that fits)
use mathlib.Core.Path.{◌≡◌, refl, sym, ap, ap₂, ◌∙◌}
use mathlib.Core.List.{List, [], ◌∷◌, ◌++◌, append_assoc, append-nil}
use Prim.Native.Nat.{ℕ, zero, suc, ◌+◌, ◌-◌, ◌*◌, ◌/◌, ◌%◌, ◌^◌, ◌≤◌, ◌<◌}
use native.Mathlib.Nat.{add-zero, zero-add, zero-mul, add-mul, mul_assoc, add_assoc, mod-mod, mod-eq_of_lt}
use native.Mathlib.Omega.{arith}
use lib.Arith.{digits_lt}
use lib.ListN.{length, take, drop, replicate, length-drop, drop_of_length-le}
use lib.Pow.{pow-add, high, low, field, mod-pow-add, mod-mod-pow}
use lib.Seq.{drop-cons, get_or-drop, get_or-take, get_or-append-add}
use borrow.Rule.Slice.PartMut.{put_mid}
use Rattle.std.specs.Int.{w64, from_be_bytes}
use Rattle.std.proofs.lemmas.List.{take-replicate}
use Rattle.sha1_blocks.specs.Fips180.{bytes}
use Rattle.slicing_core.specs.Rows.{at}
use Rattle.image_numbers.specs.Format.{number_at}

-- every place holds a byte
abbrev pub Bytes : List ℕ → Type 0
Bytes xs = (i : ℕ) → at xs i < 256

-- one byte more
wider : (k : ℕ) → 8 * suc k ≡ 8 + 8 * k
wider k = omega arith

pub bytes_low : (k x : ℕ) → bytes k (x % 2 ^ (8 * k)) ≡ bytes k x
bytes_low zero x = refl
bytes_low (suc k) x =
    rw (wider k)
    (ap₂ (λ b bs. b ∷ bs) (ap (λ y. y % 2 ^ 8) (field x 8 (8 * k)) ∙ mod-mod (x / 2 ^ (8 * k)) (2 ^ 8))
    (sym (bytes_low k (x % 2 ^ (8 + 8 * k))) ∙ ap (bytes k) (mod-mod-pow x 8 (8 * k)) ∙ bytes_low k x))

pub number_at_append : (xs ys : List ℕ) (j k : ℕ) → number_at (xs ++ ys) (length xs + j) k ≡ number_at ys j k
number_at_append xs ys j zero = refl
number_at_append xs ys j (suc k) =
    let e : suc (length xs + j) ≡ length xs + suc j = omega arith in
    rw (get_or-append-add xs ys j 0, e, number_at_append xs ys (suc j) k)

-- behind zeros
number_at_zeros : (m k : ℕ) (ys : List ℕ) → number_at (replicate m 0 ++ ys) 0 (m + k) ≡ number_at ys 0 k
number_at_zeros zero k ys = rw zero-add
number_at_zeros (suc m) k ys =
    let e : suc m + k ≡ suc (m + k) = omega arith in
    rw (e, zero-mul, zero-add) (number_at_append (0 ∷ []) (replicate m 0 ++ ys) 0 (m + k) ∙ number_at_zeros m k ys)

number_at_take : (xs : List ℕ) (j k n : ℕ) → j + k ≤ n → number_at (take n xs) j k ≡ number_at xs j k
number_at_take xs j zero n h = refl
number_at_take xs j (suc k) n h = rw (get_or-take n xs j 0 (omega arith), number_at_take xs (suc j) k n (omega arith))

pub number_at_join : (xs : List ℕ) (i a b : ℕ) → number_at xs i (a + b) ≡ number_at xs i a * 2 ^ (8 * b) + number_at xs (i + a) b
number_at_join xs i zero b = rw (zero-add, add-zero, zero-mul, zero-add)
number_at_join xs i (suc a) b =
    let e : suc a + b ≡ suc (a + b) = omega arith in
    let f : i + suc a ≡ suc i + a = omega arith in
    let g : 8 * (a + b) ≡ 8 * a + 8 * b = omega arith in
    rw (e, f, g, number_at_join xs (suc i) a b, pow-add, add-mul, mul_assoc, add_assoc)

pub joined : (xs : List ℕ) (i a b h l : ℕ) → h ≡ number_at xs i a → l ≡ number_at xs (i + a) b → h * 2 ^ (8 * b) + l ≡ number_at xs i (a + b)
joined xs i a b h l p q = rw (p, q, number_at_join xs i a b)

pub number_at_drop : (xs : List ℕ) (i j k : ℕ) → number_at (drop i xs) j k ≡ number_at xs (i + j) k
number_at_drop xs i j zero = refl
number_at_drop xs i j (suc k) =
    let e : suc (i + j) ≡ i + suc j = omega arith in
    rw (get_or-drop i xs j 0, e, number_at_drop xs i (suc j) k)

pub number_at_below : (xs : List ℕ) (i k : ℕ) → Bytes xs → number_at xs i k < 2 ^ (8 * k)
number_at_below xs i zero b = omega arith
number_at_below xs i (suc k) b = rw (wider k, pow-add) (digits_lt (b i) (number_at_below xs (suc i) k b))

-- a word whose low n bytes are those of xs from place i on, the others 0
pub word_number : (xs part : List ℕ) (i n r : ℕ) → n ≤ 8 → part ≡ take (i + n - i) (drop i xs)
    → r ≡ from_be_bytes w64 (put_mid (8 - n) (8 - (8 - n)) (replicate 8 0) part) → r ≡ number_at xs i n
word_number xs part i n r h p q =
    let e : 8 - n + n ≡ 8 = omega arith in
    let m : i + n - i ≡ n = omega arith in
    let zeros : List ℕ = replicate 8 0 in
    let none : drop (8 - (8 - n)) (drop (8 - n) zeros) ≡ [] =
    drop_of_length-le (drop (8 - n) zeros) {i = 8 - (8 - n)} (omega (arith, length-drop (8 - n) zeros)) in
    q ∙ word_at (put_mid (8 - n) (8 - (8 - n)) zeros part) ∙ ap (number_at (put_mid (8 - n) (8 - (8 - n)) zeros part) 0) (sym e)
    ∙ rw (take-replicate {X = ℕ} (8 - n) 8 0 (omega arith), none, append-nil, p, m)
    (number_at_zeros (8 - n) n (take n (drop i xs)) ∙ number_at_take (drop i xs) 0 n n (omega arith) ∙ number_at_drop xs i 0 n ∙ rw add-zero)
  where
    word_at : (w : List ℕ) → from_be_bytes w64 w ≡ number_at w 0 8
    word_at w = omega arith

pub bytes_number_at : (xs : List ℕ) (i k : ℕ) → Bytes xs → i + k ≤ length xs → bytes k (number_at xs i k) ≡ take k (drop i xs)
bytes_number_at xs i zero b h = refl
bytes_number_at xs i (suc k) b h =
    rw (drop-cons xs i 0 (omega arith))
    (ap₂ (λ y ys. y ∷ ys) (ap (λ y. y % 2 ^ 8) (high (at xs i) (8 * k) rest) ∙ mod-eq_of_lt (b i))
    (sym (bytes_low k _) ∙ ap (bytes k) (low (at xs i) (8 * k) rest) ∙ bytes_number_at xs (suc i) k b (omega arith)))
  where
    rest : number_at xs (suc i) k < 2 ^ (8 * k)
    rest = number_at_below xs (suc i) k b

-- read back from the front of a list
number_at_first : (k x : ℕ) (ys : List ℕ) → number_at (bytes k x ++ ys) 0 k ≡ x % 2 ^ (8 * k)
number_at_first zero x ys = omega arith
number_at_first (suc k) x ys =
    rw (wider k, mod-pow-add x 8 (8 * k))
    (ap (λ r. x / 2 ^ (8 * k) % 2 ^ 8 * 2 ^ (8 * k) + r)
    (number_at_append (x / 2 ^ (8 * k) % 2 ^ 8 ∷ []) (bytes k x ++ ys) 0 k ∙ number_at_first k x ys))

pub number_at_low : (xs ys : List ℕ) (k x : ℕ) → number_at (xs ++ bytes k x ++ ys) (length xs) k ≡ x % 2 ^ (8 * k)
number_at_low xs ys k x =
    rw (append_assoc xs (bytes k x) ys, ← (add-zero (length xs))) (number_at_append xs (bytes k x ++ ys) 0 k ∙ number_at_first k x ys)

pub number_at_bytes : (xs ys : List ℕ) (k x : ℕ) → x < 2 ^ (8 * k) → number_at (xs ++ bytes k x ++ ys) (length xs) k ≡ x
number_at_bytes xs ys k x h = number_at_low xs ys k x ∙ mod-eq_of_lt h
