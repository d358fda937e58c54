-- Laws of moves as flat numbers, four a place.
--
-- moves_in: length_moves_in, moves_in_flat
-- flat: flat_append, length_flat
use mathlib.Core.Path.{◌≡◌, refl, ap}
use mathlib.Core.List.{List, [], ◌∷◌, ◌++◌}
use Prim.Native.Nat.{ℕ, ◌*◌, ◌/◌}
use native.Mathlib.Omega.{arith}
use lib.ListN.{length}
use Rattle.slicing.specs.SixSteps.{Move}
use Rattle.flat_moves.specs.FlatMoves.{moves_in, flat}

pub length_moves_in : (xs : List ℕ) → length (moves_in xs) ≡ length xs / 4
length_moves_in [] = refl
length_moves_in (a ∷ []) = refl
length_moves_in (a ∷ b ∷ []) = refl
length_moves_in (a ∷ b ∷ c ∷ []) = refl
length_moves_in (a ∷ b ∷ c ∷ d ∷ xs) = omega (arith, length_moves_in xs)

pub moves_in_flat : (ms : List Move) (xs : List ℕ) → moves_in (flat ms ++ xs) ≡ ms ++ moves_in xs
moves_in_flat [] xs = refl
moves_in_flat (m ∷ ms) xs = ap (λ ns. m ∷ ns) (moves_in_flat ms xs)

pub flat_append : (ms ns : List Move) → flat (ms ++ ns) ≡ flat ms ++ flat ns
flat_append [] ns = refl
flat_append (m ∷ ms) ns = rw (flat_append ms ns)

pub length_flat : (ms : List Move) → length (flat ms) ≡ 4 * length ms
length_flat [] = refl
length_flat (m ∷ ms) = omega (arith, length_flat ms)
