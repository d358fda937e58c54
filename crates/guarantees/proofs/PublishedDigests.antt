-- The definition of SHA-1, computed on published examples.
--
--   empty       no bytes
--   abc         'abc': the digest, and the working variables after the first round and after the last
--   two_blocks  'abcdbcdecdefdefgefghfghighijhijkijkljklmklmnlmnomnopnopq', 448 bits
use mathlib.Core.Path.{◌≡◌, refl}
use mathlib.Core.List.{List, [], ◌∷◌}
use Prim.Native.Nat.{ℕ}
use Rattle.sha1_blocks.specs.Fips180.{f, K, pad, block, initial, schedule, working, round, rounds, compress, H, digest}

empty : digest [] ≡ 0xda39a3ee ∷ 0x5e6b4b0d ∷ 0x3255bfef ∷ 0x95601890 ∷ 0xafd80709 ∷ []
unfolding f K pad block schedule round rounds compress H digest
empty = refl

abbrev letters : List ℕ
letters = 0x61 ∷ 0x62 ∷ 0x63 ∷ []

abc : digest letters ≡ 0xa9993e36 ∷ 0x4706816a ∷ 0xba3e2571 ∷ 0x7850c26c ∷ 0x9cd0d89d ∷ []
unfolding f K pad block schedule round rounds compress H digest
abc = refl

-- W_0 to W_79 of its one block, and a to e after the first round and after the last
abbrev words : List ℕ
words = schedule (block (pad letters) 0) 64

abc_first : rounds words (working initial) 0 1 ≡ record { a = 0x0116fc33; b = 0x67452301; c = 0x7bf36ae2; d = 0x98badcfe; e = 0x10325476 }
unfolding f K pad block schedule round rounds
abc_first = refl

abc_last : rounds words (working initial) 0 80 ≡ record { a = 0x42541b35; b = 0x5738d5e1; c = 0x21834873; d = 0x681e6df6; e = 0xd8fdf6ad }
unfolding f K pad block schedule round rounds
abc_last = refl

abbrev longer : List ℕ
longer =
    0x61 ∷ 0x62 ∷ 0x63 ∷ 0x64 ∷ 0x62 ∷ 0x63 ∷ 0x64 ∷ 0x65 ∷ 0x63 ∷ 0x64 ∷ 0x65 ∷ 0x66 ∷ 0x64 ∷ 0x65
    ∷ 0x66 ∷ 0x67 ∷ 0x65 ∷ 0x66 ∷ 0x67 ∷ 0x68 ∷ 0x66 ∷ 0x67 ∷ 0x68 ∷ 0x69 ∷ 0x67 ∷ 0x68 ∷ 0x69 ∷ 0x6a
    ∷ 0x68 ∷ 0x69 ∷ 0x6a ∷ 0x6b ∷ 0x69 ∷ 0x6a ∷ 0x6b ∷ 0x6c ∷ 0x6a ∷ 0x6b ∷ 0x6c ∷ 0x6d ∷ 0x6b ∷ 0x6c
    ∷ 0x6d ∷ 0x6e ∷ 0x6c ∷ 0x6d ∷ 0x6e ∷ 0x6f ∷ 0x6d ∷ 0x6e ∷ 0x6f ∷ 0x70 ∷ 0x6e ∷ 0x6f ∷ 0x70 ∷ 0x71 ∷ []

two_blocks : digest longer ≡ 0x84983e44 ∷ 0x1c3bd26e ∷ 0xbaae4aa1 ∷ 0xf95129e5 ∷ 0xe54670f1 ∷ []
unfolding f K pad block schedule round rounds compress H digest
two_blocks = refl
