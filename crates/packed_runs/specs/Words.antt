-- Arrays of numbers as lists of runs, a run being size × 65,536 + label.
--
--   room                how many runs an array has room for
--   runs xs i n         n runs of xs from place i
--   Labelled k xs n     the labels of the first n runs are below k
--   piece_of x            the label of a piece: its owner, and 256 more where it is taken
--   turn_of x            the label of a turn: old × 256 + new
--   pieces_of xs i n        n pieces
--   turns_of xs i n      n turns
--   by_row xs i n        a run for each row from i on: so many points of xs
--   present rs          the runs that are not empty
use Rattle.std.specs.Prelude.{cond, List, [], ◌∷◌, ℕ, zero, suc, ◌-◌, ◌/◌, ◌%◌, ◌<◌, ltb}
use Rattle.slicing.specs.Runs.{Run, ◌of◌, relabel}
use Rattle.slicing.specs.SixSteps.{Piece, kept, taken, Turn, ◌⟶◌}
use Rattle.slicing_core.specs.Rows.{at}

abbrev pub room : ℕ
room = 8448

abbrev pub runs : List ℕ → ℕ → ℕ → List (Run ℕ)
runs xs i zero = []
runs xs i (suc n) = (at xs i / 65536 of at xs i % 65536) ∷ runs xs (suc i) n

abbrev pub Labelled : ℕ → List ℕ → ℕ → Type 0
Labelled k xs n = (i : ℕ) → i < n → at xs i % 65536 < k

abbrev pub piece_of : ℕ → Piece
piece_of x = cond (ltb x 256) (kept x) (taken (x - 256))

abbrev pub turn_of : ℕ → Turn
turn_of x = (x / 256) ⟶ (x % 256)

abbrev pub pieces_of : List ℕ → ℕ → ℕ → List (Run Piece)
pieces_of xs i n = relabel piece_of (runs xs i n)

abbrev pub turns_of : List ℕ → ℕ → ℕ → List (Run Turn)
turns_of xs i n = relabel turn_of (runs xs i n)

abbrev pub by_row : List ℕ → ℕ → ℕ → List (Run ℕ)
by_row xs i zero = []
by_row xs i (suc n) = (at xs i of i) ∷ by_row xs (suc i) n

abbrev pub present : {A : Type 0} → List (Run A) → List (Run A)
present [] = []
present ((zero of x) ∷ rs) = present rs
present ((suc n of x) ∷ rs) = (suc n of x) ∷ present rs
