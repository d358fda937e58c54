-- Points of probes lie in the range. Nothing is assumed of the hash but that its words have 32 bits.
--
-- Laws: H-word, digest_word, scaled_below, point_of_below.
use mathlib.Core.List.{List, ◌++◌}
use Prim.Native.Nat.{ℕ, zero, suc, ◌*◌, ◌≤◌, ◌<◌}
use native.Mathlib.Omega.{arith}
use native.Mathlib.Nat.{div-add-mod, mul-lt-mul_of_pos_right, lt_of_mul-lt-mul_left}
use lib.ListN.{get_or}
use Rattle.sha1_blocks.specs.Fips180.{bytes, compress, digest, pad, N}
use Rattle.sha1_blocks.specs.Fips180 as Fips
use Rattle.lookup_core.specs.Probes.{scaled, point_of}

H-word : (p : List ℕ) (i : ℕ) → (Fips.H p i).h0 < 4294967296
unfolding Fips.H compress
H-word p zero = omega arith
H-word p (suc i) = omega arith

digest_word : (m : List ℕ) → get_or (digest m) 0 0 < 4294967296
unfolding digest
digest_word m = H-word (pad m) (N m)

-- h × R divided by 2 ^ 32, rounded down, is below R
pub scaled_below : (h R : ℕ) → 1 ≤ R → h < 4294967296 → scaled h R < R
scaled_below h R l k =
    lt_of_mul-lt-mul_left 4294967296
    (omega (arith, div-add-mod (h * R) 4294967296, mul-lt-mul_of_pos_right k l))

pub point_of_below : (block t R : ℕ) → 1 ≤ R → point_of block t R < R
unfolding point_of
point_of_below block t R l = scaled_below (get_or (digest (bytes 8 block ++ bytes 4 t)) 0 0) R l (digest_word (bytes 8 block ++ bytes 4 t))
