-- SHA-1 as FIPS 180-4 has it, section by section, in its names and order. A word is a number below 2 ^ 32, a byte one
-- below 2 ^ 8, a message a list of bytes.
--
--   _⊞_ x y            2.2.2, 3.2   x + y modulo 2 ^ 32
--   ROTL n x           3.2          x rotated left by n places
--   Ch, Parity, Maj    4.1.1        the functions of three words
--   f t x y z          4.1.1        which of them round t uses
--   K t                4.2.1        the constant of round t
--   bytes n x          3.1          x in n bytes, highest first
--   pad m              5.1.1        the padded message
--   N m                5.2.1        how many blocks it has
--   word p i           5.2.1        the word of p whose first byte is byte i
--   block p i          5.2.1        the sixteen words of block i, from 0
--   initial            5.3.1        H(0)
--   next W t           6.1.2, 1     W_t, from the words of W before it
--   schedule M n       6.1.2, 1     W_0 to W_(15 + n) of the block M
--   working h          6.1.2, 2     the working variables, begun with the hash value h
--   round t w v        6.1.2, 3     round t with the word w
--   rounds W v t n     6.1.2, 3     n rounds, the first of them round t
--   intermediate v h   6.1.2, 4     the hash value after the block
--   compress h M       6.1.2        the hash value after the block M, h being the one before
--   H p i              6.1.2        H(i), the hash value after i blocks of p
--   digest m           6.1.2        the message digest, five words
use Rattle.std.specs.Prelude.{ℕ, zero, suc, ◌+◌, ◌-◌, ◌*◌, ◌/◌, ◌%◌, ◌^◌, cond, List, [], ◌∷◌, ◌++◌, length, replicate, bit_and, bit_or, bit_xor, nat_lt, slice_index}
use Rattle.sha1_blocks.specs.declared.Hash.{Hash}
use Rattle.sha1_blocks.specs.declared.Variables.{Variables}

infixl 60 ◌⊞◌
-- 3.1: a word or a double word as bytes, the highest first
abbrev pub bytes : ℕ → ℕ → List ℕ
bytes zero x = []
bytes (suc n) x = x / 2 ^ (8 * n) % 2 ^ 8 ∷ bytes n x

-- 3.2: addition modulo 2 ^ 32
abbrev pub ◌⊞◌ : ℕ → ℕ → ℕ
x ⊞ y = (x + y) % 2 ^ 32

-- 3.2: the rotate left operation, (x << n) ∨ (x >> 32 − n)
abbrev pub ROTL : ℕ → ℕ → ℕ
ROTL n x = bit_or (x * 2 ^ n % 2 ^ 32) (x / 2 ^ (32 - n))

-- 2.2.2: the complement of a word
abbrev pub complement : ℕ → ℕ
complement x = 2 ^ 32 - 1 - x

-- 4.1.1
abbrev pub Ch : ℕ → ℕ → ℕ → ℕ
Ch x y z = bit_xor (bit_and x y) (bit_and (complement x) z)

abbrev pub Parity : ℕ → ℕ → ℕ → ℕ
Parity x y z = bit_xor (bit_xor x y) z

abbrev pub Maj : ℕ → ℕ → ℕ → ℕ
Maj x y z = bit_xor (bit_xor (bit_and x y) (bit_and x z)) (bit_and y z)

-- 4.1.1: f_t
unfoldable pub f : ℕ → ℕ → ℕ → ℕ → ℕ
f t x y z = cond (nat_lt t 20) (Ch x y z) (cond (nat_lt t 40) (Parity x y z) (cond (nat_lt t 60) (Maj x y z) (Parity x y z)))

-- 4.2.1: K_t
unfoldable pub K : ℕ → ℕ
K t = cond (nat_lt t 20) 0x5a827999 (cond (nat_lt t 40) 0x6ed9eba1 (cond (nat_lt t 60) 0x8f1bbcdc 0xca62c1d6))

-- 5.1.1: the zero bytes of the padding. With l bits, 1 + k bits follow, k the smallest that has l + 1 + k ≡ 448 mod 512;
-- of n whole bytes that is the byte 80 hexadecimal and as many zero bytes as bring n + 1 to 56 mod 64
abbrev pub zeros : ℕ → ℕ
zeros n = (119 - n % 64) % 64

-- 5.1.1: the message, a 1 bit, the zero bits, and the message's length in bits as 64 bits
unfoldable pub pad : List ℕ → List ℕ
pad m = m ++ 0x80 ∷ replicate (zeros (length m)) 0 ++ bytes 8 (8 * length m)

-- 5.2.1: N, the number of blocks of 512 bits
abbrev pub N : List ℕ → ℕ
N m = length (pad m) / 64

-- 5.2.1: the 32 bits whose first byte is byte i
abbrev pub word : List ℕ → ℕ → ℕ
word p i = slice_index p i * 2 ^ 24 + slice_index p (i + 1) * 2 ^ 16 + slice_index p (i + 2) * 2 ^ 8 + slice_index p (i + 3)

-- n words, the first at byte i
abbrev pub words_from : List ℕ → ℕ → ℕ → List ℕ
words_from p i zero = []
words_from p i (suc n) = word p i ∷ words_from p (i + 4) n

-- 5.2.1: M_0 to M_15 of block i, counted from 0
unfoldable pub block : List ℕ → ℕ → List ℕ
block p i = words_from p (64 * i) 16

-- 5.3.1: H(0)
abbrev pub initial : Hash
initial = record { h0 = 0x67452301; h1 = 0xefcdab89; h2 = 0x98badcfe; h3 = 0x10325476; h4 = 0xc3d2e1f0 }

-- 6.1.2, step 1: W_t of t = 16 and above, from the words before it
abbrev pub next : List ℕ → ℕ → ℕ
next W t = ROTL 1 (bit_xor (bit_xor (bit_xor (slice_index W (t - 3)) (slice_index W (t - 8))) (slice_index W (t - 14))) (slice_index W (t - 16)))

-- 6.1.2, step 1: the message schedule, the block's sixteen words and n more
unfoldable pub schedule : List ℕ → ℕ → List ℕ
schedule M zero = M
schedule M (suc n) = schedule M n ++ next (schedule M n) (16 + n) ∷ []

-- 6.1.2, step 2: the five working variables, initialised with the hash value before
abbrev pub working : Hash → Variables
working h = record { a = h.h0; b = h.h1; c = h.h2; d = h.h3; e = h.h4 }

-- 6.1.2, step 3: round t with the word w
unfoldable pub round : ℕ → ℕ → Variables → Variables
round t w v = record {
  a = ROTL 5 v.a ⊞ f t v.b v.c v.d ⊞ v.e ⊞ K t ⊞ w;
  b = v.a;
  c = ROTL 30 v.b;
  d = v.c;
  e = v.d;
}

-- 6.1.2, step 3: n rounds, the first of them round t
unfoldable pub rounds : List ℕ → Variables → ℕ → ℕ → Variables
rounds W v t zero = v
rounds W v t (suc n) = round (t + n) (slice_index W (t + n)) (rounds W v t n)

-- 6.1.2, step 4: the intermediate hash value
abbrev pub intermediate : Variables → Hash → Hash
intermediate v h = record { h0 = v.a ⊞ h.h0; h1 = v.b ⊞ h.h1; h2 = v.c ⊞ h.h2; h3 = v.d ⊞ h.h3; h4 = v.e ⊞ h.h4 }

-- 6.1.2, steps 1 to 4: H(i) from H(i - 1) and the block M
unfoldable pub compress : Hash → List ℕ → Hash
compress h M = intermediate (rounds (schedule M 64) (working h) 0 80) h

-- 6.1.2: H(i)
unfoldable pub H : List ℕ → ℕ → Hash
H p zero = initial
H p (suc i) = compress (H p i) (block p i)

-- 6.1.2: the message digest, H_0 to H_4 of H(N)
abbrev pub words_of : Hash → List ℕ
words_of h = h.h0 ∷ h.h1 ∷ h.h2 ∷ h.h3 ∷ h.h4 ∷ []

unfoldable pub digest : List ℕ → List ℕ
digest m = words_of (H (pad m) (N m))
