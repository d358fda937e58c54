-- Lines of a history. Renders document 01, 'History text' and the rows of 'Where a call stops' on text.
--
--   line_reply r      document 01's number and values of an answer
--   line_of ws        what a line of the words ws says
--   line_in xs        what the line xs says
--   LineRead xs r    r answers the call for what the line xs says
use Rattle.std.specs.Prelude.{◌≡◌, Bool, true, false, cond, ◌&&◌, ◌||◌, List, [], ◌∷◌, ℕ, Option, None, Some, Result, Ok, Err, eqb}
use Rattle.refusals.specs.Replies.{number}
use Rattle.refusals.specs.declared.Refusal.{Refusal}
use Rattle.refusals.specs.declared.Refusal.TheVariants.{Shapeless, Outside}
use Rattle.slicing.specs.Limits.{max_range, max_limit, max_id, outside, device_outside}
use Rattle.history_lines.specs.declared.lines.HistoryLine.{HistoryLine}
use Rattle.history_lines.specs.declared.lines.HistoryLine.TheVariants.{Range, Add, Remove, Resize}
use Rattle.history_numbers.specs.Text.{space, split, number_in, capacity_in}

-- ---- replies

-- 'For an answer that is an enum, a definition gives this paper's number and values for each case of the enum.'
-- the refusal number or 0, and the numbers that the line gives, none if it is refused
pub record LineReply : Type 0 where
  pub number : ℕ
  pub values : List ℕ

abbrev pub line_reply : Result HistoryLine Refusal → LineReply
line_reply (Ok (Range R M)) = record { number = 0; values = R ∷ M ∷ [] }
line_reply (Ok (Add d c)) = record { number = 0; values = d ∷ c ∷ [] }
line_reply (Ok (Remove d)) = record { number = 0; values = d ∷ [] }
line_reply (Ok (Resize d c)) = record { number = 0; values = d ∷ c ∷ [] }
line_reply (Err e) = record { number = number e; values = [] }

-- ---- the four shapes

abbrev pub range_word : List ℕ
range_word = 0x72 ∷ 0x61 ∷ 0x6e ∷ 0x67 ∷ 0x65 ∷ []

abbrev pub add_word : List ℕ
add_word = 0x61 ∷ 0x64 ∷ 0x64 ∷ []

abbrev pub remove_word : List ℕ
remove_word = 0x72 ∷ 0x65 ∷ 0x6d ∷ 0x6f ∷ 0x76 ∷ 0x65 ∷ []

abbrev pub resize_word : List ℕ
resize_word = 0x72 ∷ 0x65 ∷ 0x73 ∷ 0x69 ∷ 0x7a ∷ 0x65 ∷ []

abbrev pub same : List ℕ → List ℕ → Bool
same [] [] = true
same [] (y ∷ ys) = false
same (x ∷ xs) [] = false
same (x ∷ xs) (y ∷ ys) = let r = same xs ys in eqb x y && r

-- '1: not one of the four shapes', then '2: a number outside its limits': two words whose shapes and limits are judged together
abbrev pub pair_line : (ℕ → ℕ → HistoryLine) → (ℕ → ℕ → Bool) → Option ℕ → Option ℕ → Result HistoryLine Refusal
pair_line f out None q = Err Shapeless
pair_line f out (Some a) None = Err Shapeless
pair_line f out (Some a) (Some b) = cond (out a b) (Err Outside) (Ok (f a b))

abbrev pub remove_line : Option ℕ → Result HistoryLine Refusal
remove_line None = Err Shapeless
remove_line (Some d) = cond (outside max_id d) (Err Outside) (Ok (Remove d))

-- a range line's numbers, one of them outside its limits
abbrev pub range_outside : ℕ → ℕ → Bool
range_outside R M = outside max_range R || outside max_limit M

-- 'They are `range R M`, `add ID CAPACITY`, `remove ID`, `resize ID CAPACITY`: lower case, one space between words, nothing else.'
abbrev pub three_words : List ℕ → List ℕ → List ℕ → Result HistoryLine Refusal
three_words k a b =
    cond (same k range_word) (pair_line Range range_outside (number_in a) (number_in b))
    (cond (same k add_word) (pair_line Add device_outside (number_in a) (capacity_in b))
    (cond (same k resize_word) (pair_line Resize device_outside (number_in a) (capacity_in b))
    (Err Shapeless)))

abbrev pub line_of : List (List ℕ) → Result HistoryLine Refusal
line_of [] = Err Shapeless
line_of (k ∷ []) = Err Shapeless
line_of (k ∷ a ∷ []) = cond (same k remove_word) (remove_line (number_in a)) (Err Shapeless)
line_of (k ∷ a ∷ b ∷ []) = three_words k a b
line_of (k ∷ a ∷ b ∷ c ∷ ws) = Err Shapeless

unfoldable pub line_in : List ℕ → Result HistoryLine Refusal
line_in xs = line_of (split space xs)

pub record LineRead (xs : List ℕ) (r : Result HistoryLine Refusal) : Type 0 where
  pub answer : r ≡ line_in xs
  pub reply : line_reply r ≡ line_reply (line_in xs)
