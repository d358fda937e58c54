-- Laws of the padding, `pad` of FIPS 180-4, section 5.1.1.
--
--   get_d_bytes               a byte of a number
--   length_pad               how many bytes the padded message has
--   whole_blocks, N-blocks   they are a whole number of blocks, and which number
--   get_d_pad_message         the byte at a place within the message
--   get_d_pad_mark            the byte after it
--   get_d_pad_zero            a byte between that one and the length field
--   get_d_pad_field           a byte of the length field, counted from the end
--   word_pad                 a word within the message
use Rattle.std.proofs.Common.{◌≡◌, ℕ, zero, suc, ◌+◌, ◌-◌, ◌*◌, ◌/◌, ◌%◌, ◌^◌, ◌<◌, ◌≤◌, List, ◌∷◌, ◌++◌, length, get_or, replicate, ◌∙◌, append_assoc, arith, length-append, get_or-append-add}
use lib.ListN.{length-replicate, get_or-replicate, get_or-append}
use lib.Seq.{get_or-append_seam}
use Rattle.sha1_blocks.specs.Fips180.{bytes, zeros, pad, N, word}

-- ---- a number as bytes

pub get_d_bytes : (n x j : ℕ) → j < n → get_or (bytes n x) j 0 ≡ x / 2 ^ (8 * (n - 1 - j)) % 2 ^ 8
get_d_bytes zero x j h = absurd (omega arith)
get_d_bytes (suc n) x zero h = let e : suc n - 1 - 0 ≡ n = omega arith in rw e
get_d_bytes (suc n) x (suc j) h = let e : suc n - 1 - suc j ≡ n - 1 - j = omega arith in rw e (get_d_bytes n x j (omega arith))

-- ---- the length

abbrev zero_bytes : ℕ → List ℕ
zero_bytes n = replicate (zeros n) 0

-- what stands behind n bytes and the byte 80 hexadecimal
abbrev rest : ℕ → List ℕ
rest n = zero_bytes n ++ bytes 8 (8 * n)

pad_rest : (m : List ℕ) → pad m ≡ m ++ 0x80 ∷ rest (length m)
unfolding pad
pad_rest m = append_assoc m (0x80 ∷ zero_bytes (length m)) (bytes 8 (8 * length m))

length_zero_bytes : (n : ℕ) → length (zero_bytes n) ≡ zeros n
length_zero_bytes n = length-replicate (zeros n) 0

pub length_pad : (m : List ℕ) → length (pad m) ≡ 64 * ((length m + 72) / 64)
length_pad m = simp (pad_rest, length-append, length_zero_bytes) (omega arith)

pub N-blocks : (m : List ℕ) → N m ≡ (length m + 72) / 64
N-blocks m = omega (arith, length_pad m)

pub whole_blocks : (m : List ℕ) → 64 * N m ≡ length (pad m)
whole_blocks m = omega (arith, length_pad m)

-- ---- the byte at each place

pub get_d_pad_message : (m : List ℕ) (i : ℕ) → i < length m → get_or (pad m) i 0 ≡ get_or m i 0
get_d_pad_message m i h = rw pad_rest (get_or-append m (0x80 ∷ rest (length m)) 0 i h)

pub get_d_pad_mark : (m : List ℕ) → get_or (pad m) (length m) 0 ≡ 0x80
get_d_pad_mark m = rw pad_rest (get_or-append_seam m 0x80 (rest (length m)) 0)

get_d_pad_rest : (m : List ℕ) (i j : ℕ) → i ≡ length m + suc j → get_or (pad m) i 0 ≡ get_or (rest (length m)) j 0
get_d_pad_rest m i j e = rw (e, pad_rest) (get_or-append-add m (0x80 ∷ rest (length m)) (suc j) 0)

pub get_d_pad_zero : (m : List ℕ) (i : ℕ) → length m < i → i + 8 < length (pad m) → get_or (pad m) i 0 ≡ 0
get_d_pad_zero m i h k =
    let j : ℕ = i - length m - 1 in
    let l : j < zeros (length m) = omega (arith, length_pad m) in
    get_d_pad_rest m i j (omega arith)
    ∙ get_or-append (zero_bytes (length m)) (bytes 8 (8 * length m)) 0 j (omega (arith, length_zero_bytes (length m)))
    ∙ get_or-replicate (zeros (length m)) j 0 0 l

pub get_d_pad_field : (m : List ℕ) (i k : ℕ) → i + suc k ≡ length (pad m) → k < 8 → get_or (pad m) i 0 ≡ 8 * length m / 2 ^ (8 * k) % 2 ^ 8
get_d_pad_field m i k e h =
    let q : 8 - 1 - (7 - k) ≡ k = omega arith in
    get_d_pad_rest m i (length (zero_bytes (length m)) + (7 - k)) (omega (arith, length_pad m, length_zero_bytes (length m)))
    ∙ get_or-append-add (zero_bytes (length m)) (bytes 8 (8 * length m)) (7 - k) 0
    ∙ rw (get_d_bytes 8 (8 * length m) (7 - k) (omega arith), q)

pub word_pad : (m : List ℕ) (i : ℕ) → i + 4 ≤ length m → word (pad m) i ≡ word m i
word_pad m i h =
    let same : (j : ℕ) → j < length m → get_or (pad m) j 0 ≡ get_or m j 0 = get_d_pad_message m in
    rw (same i (omega arith), same (i + 1) (omega arith), same (i + 2) (omega arith), same (i + 3) (omega arith))
