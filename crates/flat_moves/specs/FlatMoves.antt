-- Moves as flat numbers, for callers that have no structs.
--
--   moves_in xs       the moves of a flat list, four numbers a place
--   flat ms          the numbers of moves
use Rattle.std.specs.Prelude.{List, [], ◌∷◌, ℕ}
use Rattle.slicing.specs.SixSteps.{Move, move}

abbrev pub moves_in : List ℕ → List Move
moves_in [] = []
moves_in (a ∷ []) = []
moves_in (a ∷ b ∷ []) = []
moves_in (a ∷ b ∷ c ∷ []) = []
moves_in (a ∷ b ∷ c ∷ d ∷ xs) = move a b c d ∷ moves_in xs

abbrev pub flat : List Move → List ℕ
flat [] = []
flat (m ∷ ms) = m.start ∷ m.size ∷ m.from ∷ m.to ∷ flat ms
