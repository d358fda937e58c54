-- Bytes put behind one another: what stands in a buffer after a number is stored in it.
--
-- put_low (the low bytes of a word), put_parts, put_parts_back (bytes behind bytes, in either order)
-- head_put (the numbers of the head behind one another)
use mathlib.Core.Path.{◌≡◌, refl, sym, ap, ◌∙◌}
use mathlib.Core.List.{List, [], ◌++◌, append_assoc}
use Prim.Native.Nat.{ℕ, ◌+◌, ◌-◌, ◌*◌, ◌/◌, ◌^◌, ◌≤◌}
use native.Mathlib.Omega.{arith}
use native.Mathlib.Nat.{div-one}
use lib.ListN.{length, take, drop, length-append, length-take, take-append-drop}
use lib.Seq.{drop_at, drop-drop, take_all, take-append-le, take-take}
use borrow.Rule.Slice.PartMut.{put_mid}
use Rattle.std.specs.Int.{w64, to_be_bytes}
use Rattle.sha1_blocks.specs.Fips180.{bytes}
use Rattle.sha1_digest.proofs.TwelveBytes.{bytes_append}
use Rattle.slicing_core.proofs.Fronts.{front_put}
use Rattle.image_numbers.specs.Format.{mark, version, head_size, head}
use Rattle.image_numbers.proofs.ImageSizes.{length_bytes}

-- the low n bytes of a word, put at place i
pub put_low : (before part : List ℕ) (i n x : ℕ) → n ≤ 8 → part ≡ take (8 - (8 - n)) (drop (8 - n) (to_be_bytes w64 x))
    → put_mid i (i + n - i) before part ≡ take i before ++ bytes n x ++ drop (i + n) before
put_low before part i n x h p =
    let e : 8 - n + n ≡ 8 = omega arith in
    let m : 8 - (8 - n) ≡ n = omega arith in
    let k : i + n - i ≡ n = omega arith in
    let high : List ℕ = bytes (8 - n) (x / 2 ^ (8 * n)) in
    let all : bytes 8 x ≡ high ++ bytes n x = ap (λ j. bytes j x) (sym e) ∙ bytes_append (8 - n) n x in
    rw (p, m, k, drop-drop, append_assoc)
    (ap (λ ys. take i before ++ (take n (drop (8 - n) ys) ++ drop (i + n) before)) (word_bytes x ∙ all)
    ∙ rw (drop_at high (bytes n x) (8 - n) (length_bytes (8 - n) _), take_all n (bytes n x) (omega (arith, length_bytes n x))))
  where
    word_bytes : (y : ℕ) → to_be_bytes w64 y ≡ bytes 8 y
    word_bytes y = rw div-one

-- parts of a and b bytes, put at places i and i + a
pub put_parts : (before xs ys after after' : List ℕ) (i a b : ℕ) → length xs ≡ a → i ≤ length before
    → after ≡ take i before ++ xs ++ drop (i + a) before → after' ≡ take (i + a) after ++ ys ++ drop (i + a + b) after
    → after' ≡ take i before ++ (xs ++ ys) ++ drop (i + (a + b)) before
put_parts before xs ys after after' i a b l h e f =
    let n : length (take i before) ≡ i = omega (arith, length-take i before) in
    let m : length (take i before ++ xs) ≡ i + a = omega (arith, length-append (take i before) xs) in
    let d : i + a + b ≡ i + (a + b) = omega arith in
    let first = front_put before (take i before) xs before after i a n (sym (take-append-drop i before)) e in
    let second = front_put before (take i before ++ xs) ys after after' (i + a) b m first f in
    second ∙ rw (d, append_assoc (take i before) xs ys)

-- the part behind put first
pub put_parts_back : (before xs ys after after' : List ℕ) (i a b : ℕ) → i + a ≤ length before
    → after ≡ take (i + a) before ++ ys ++ drop (i + a + b) before → after' ≡ take i after ++ xs ++ drop (i + a) after
    → after' ≡ take i before ++ (xs ++ ys) ++ drop (i + (a + b)) before
put_parts_back before xs ys after after' i a b h e f =
    let front : List ℕ = take (i + a) before in
    let rest : List ℕ = drop (i + a + b) before in
    let n : length front ≡ i + a = omega (arith, length-take (i + a) before) in
    let d : i + a + b ≡ i + (a + b) = omega arith in
    let g : after ≡ front ++ (ys ++ rest) = e ∙ append_assoc front ys rest in
    let first : take i after ≡ take i before =
    ap (take i) g ∙ take-append-le i front (ys ++ rest) (omega (arith, n)) ∙ take-take i (i + a) before (omega arith) in
    let last : drop (i + a) after ≡ ys ++ rest = ap (drop (i + a)) g ∙ drop_at front (ys ++ rest) (i + a) n in
    f ∙ rw (first, last, d) (simp append_assoc)

-- ---- the head

pub head_put : (R M n q : ℕ) (b0 b1 b2 b3 b4 b5 b6 : List ℕ) → b1 ≡ take 0 b0 ++ bytes 3 mark ++ drop 3 b0
    → b2 ≡ take 3 b1 ++ bytes 2 version ++ drop 5 b1 → b3 ≡ take 5 b2 ++ bytes 8 R ++ drop 13 b2
    → b4 ≡ take 13 b3 ++ bytes 2 M ++ drop 15 b3 → b5 ≡ take 15 b4 ++ bytes 2 n ++ drop 17 b4 → b6 ≡ take 17 b5 ++ bytes 2 q ++ drop 19 b5
    → b6 ≡ head R M n q ++ drop head_size b0
head_put R M n q b0 b1 b2 b3 b4 b5 b6 e1 e2 e3 e4 e5 e6 =
    let d1 : List ℕ = bytes 3 mark in
    let d2 : List ℕ = d1 ++ bytes 2 version in
    let d3 : List ℕ = d2 ++ bytes 8 R in
    let d4 : List ℕ = d3 ++ bytes 2 M in
    let d5 : List ℕ = d4 ++ bytes 2 n in
    let f1 = front_put b0 [] d1 b0 b1 0 3 refl refl e1 in
    let f2 = front_put b0 d1 (bytes 2 version) b1 b2 3 2 refl f1 e2 in
    let f3 = front_put b0 d2 (bytes 8 R) b2 b3 5 8 refl f2 e3 in
    let f4 = front_put b0 d3 (bytes 2 M) b3 b4 13 2 refl f3 e4 in
    let f5 = front_put b0 d4 (bytes 2 n) b4 b5 15 2 refl f4 e5 in
    front_put b0 d5 (bytes 2 q) b5 b6 17 2 refl f5 e6
