-- The padded message of twelve bytes, a number in 8 and one in 4, is one block.
--
--   bytes_append   a number's bytes are those of its high part and those of its low part
--   word_bytes     the word that the low four bytes of a number make
--   N-twelve       the padded message is one block
--   twelve         the sixteen words of the block
--   block_twelve   they are those of the padded message
--   digest_twelve  the digest
use mathlib.Core.Path.{◌≡◌, refl, ap, ap₂, ◌∙◌}
use mathlib.Core.List.{List, [], ◌∷◌, ◌++◌}
use Prim.Native.Nat.{ℕ, zero, suc, ◌+◌, ◌*◌, ◌/◌, ◌%◌, ◌^◌, ◌<◌}
use native.Mathlib.Nat.{div-div-eq-div-mul}
use native.Mathlib.Omega.{arith}
use lib.Arith.{mod-mul}
use lib.Dec.{lit<}
use lib.Pow.{pow-add, pow_pos}
use Rattle.sha1_blocks.specs.Fips180.{bytes, pad, N, word, block, initial, compress, H, words_of, digest}

pub bytes_append : (n k x : ℕ) → bytes (n + k) x ≡ bytes n (x / 2 ^ (8 * k)) ++ bytes k x
bytes_append zero k x = let e : zero + k ≡ k = omega arith in rw e
bytes_append (suc n) k x =
    let e : suc n + k ≡ suc (n + k) = omega arith in
    let d : 8 * (n + k) ≡ 8 * k + 8 * n = omega arith in
    rw (e, d, pow-add, ← div-div-eq-div-mul, bytes_append n k x)

pub word_bytes : (x : ℕ) → word (bytes 4 x) 0 ≡ x % 2 ^ 32
word_bytes x = rw (top 24, top 16, top 8) (omega arith)
  where
    top : (k : ℕ) → x % 2 ^ (8 + k) ≡ x / 2 ^ k % 2 ^ 8 * 2 ^ k + x % 2 ^ k
    top k = rw pow-add (mod-mul x (lit< tt) (pow_pos k))

pub N-twelve : (high low : ℕ) → N (bytes 8 high ++ bytes 4 low) ≡ 1
unfolding pad
N-twelve high low = refl

-- high in two words, low in one, the byte 80 hexadecimal, zeros, and the length, 96 bits
abbrev pub twelve : ℕ → ℕ → List ℕ
twelve high low = high / 2 ^ 32 ∷ high % 2 ^ 32 ∷ low ∷ 0x80000000 ∷ 0 ∷ 0 ∷ 0 ∷ 0 ∷ 0 ∷ 0 ∷ 0 ∷ 0 ∷ 0 ∷ 0 ∷ 0 ∷ 96 ∷ []

pub block_twelve : (high low : ℕ) → high < 2 ^ 64 → low < 2 ^ 32 → block (pad (bytes 8 high ++ bytes 4 low)) 0 ≡ twelve high low
unfolding pad block
block_twelve high low h l =
    ap (λ b. block (pad (b ++ bytes 4 low)) 0) (bytes_append 4 4 high)
    ∙ ap₂ (λ w ws. w ∷ ws) (word_bytes (high / 2 ^ 32) ∙ omega arith)
    (ap₂ (λ w ws. w ∷ ws) (word_bytes high) (ap₂ (λ w ws. w ∷ ws) (word_bytes low ∙ omega arith) refl))

pub digest_twelve : (high low : ℕ) → high < 2 ^ 64 → low < 2 ^ 32
    → digest (bytes 8 high ++ bytes 4 low) ≡ words_of (compress initial (twelve high low))
unfolding digest H
digest_twelve high low h l = rw (N-twelve high low) (ap (λ M. words_of (compress initial M)) (block_twelve high low h l))
