-- Points of probes (document 01's tries) and the probing for copies. Renders document 01, 'Points and copies'.
--
--   point_of block t R     the point of probe t
--   member d cs           whether d is among cs
--   Chosen                the owners chosen, in order, and the probes made
--   choose_from ..         the probing from a probe on
--   choose o k            the walk for k copies; o t owns the point of probe t
use Rattle.std.specs.Prelude.{Bool, false, cond, ◌||◌, List, [], ◌∷◌, ◌++◌, ℕ, zero, suc, ◌*◌, ◌/◌, eqb, leb, length, get_or}
use Rattle.sha1_blocks.specs.Fips180.{bytes, digest}

-- 'Try t of a block hashes twelve bytes: the block number in 8 and t in 4, highest byte first. With h the first 32-bit word of
-- the digest, the point is h × R divided by 4,294,967,296, rounded down.'
abbrev pub scaled : ℕ → ℕ → ℕ
scaled h R = h * R / 4294967296

unfoldable pub point_of : ℕ → ℕ → ℕ → ℕ
point_of block t R = scaled (get_or (digest (bytes 8 block ++ bytes 4 t)) 0 0) R

abbrev pub member : ℕ → List ℕ → Bool
member d [] = false
member d (e ∷ cs) = eqb d e || member d cs

pub record Chosen : Type 0 where
  pub owners : List ℕ
  pub probes : ℕ

-- 'tries run from 0; an owner not chosen yet is chosen; the k-th ends the walk': n probes are left, t is the next
abbrev pub choose_from : (ℕ → ℕ) → ℕ → ℕ → ℕ → List ℕ → Chosen
choose_from o k zero t cs = record { owners = cs; probes = t }
choose_from o k (suc n) t cs =
    let again = choose_from o k n (suc t) cs in
    let more = choose_from o k n (suc t) (cs ++ o t ∷ []) in
    let last : Chosen = record { owners = cs ++ o t ∷ []; probes = suc t } in
    cond (member (o t) cs) again (cond (leb k (suc (length cs))) last more)

-- 'fewer than k different owners in 256 tries'
abbrev pub max_probes : ℕ
max_probes = 256

unfoldable pub choose : (ℕ → ℕ) → ℕ → Chosen
choose o k = choose_from o k max_probes 0 []
