-- Whole histories: what is said of a text, beside its transcript.
--
--   all_but_last ps, last_of ps    the parts of a text but the last, and the last
--   lines_of xs          the complete lines of a text
--   text_of ps           the text of complete lines ps
--   Whole ps            no line of ps has a line end in it
--   Complete xs         xs is empty or ends in a line end
--   line_ends xs         how many bytes of xs are line ends
--   line_count ps        how many lines the parts ps of a text are
--   read_all h ps        the reading after the lines ps
--   pool_after xs        the pool after a text
--   accepted_lines h ps  those of the lines ps that are not refused
--   spaced ns           numbers as printed, with one space between
--   printed_lines h n ps what `slices` prints of the lines ps, without the table
--   unfinished n p      what it prints of a last line n with no line end
use Rattle.std.specs.Prelude.{◌≡◌, cond, List, [], ◌∷◌, ◌++◌, ℕ, suc, ◌+◌, ltb, length}
use Rattle.slicing.specs.Changes.{State}
use Rattle.slicing.specs.Runs.{count}
use Rattle.history_numbers.specs.Text.{line_end, space, split}
use Rattle.history_lines.specs.Lines.{line_in}
use Rattle.history_printing.specs.Printing.{decimal, fields}
use Rattle.history_steps.specs.Steps.{Reading, start, applied}
use Rattle.history.specs.Replay.{printed_line}

-- ---- lines

-- all parts but the last: each of them has a line end behind it
abbrev pub all_but_last : List (List ℕ) → List (List ℕ)
all_but_last [] = []
all_but_last (p ∷ []) = []
all_but_last (p ∷ q ∷ ps) = p ∷ all_but_last (q ∷ ps)

-- the last part: what stands behind the last line end
abbrev pub last_of : List (List ℕ) → List ℕ
last_of [] = []
last_of (p ∷ []) = p
last_of (p ∷ q ∷ ps) = last_of (q ∷ ps)

-- 'Lines end in byte 0A hexadecimal.'
abbrev pub lines_of : List ℕ → List (List ℕ)
lines_of xs = all_but_last (split line_end xs)

-- each line with a line end behind it
abbrev pub text_of : List (List ℕ) → List ℕ
text_of [] = []
text_of (p ∷ ps) = p ++ line_end ∷ text_of ps

-- nothing stands behind its last line end
pub data Complete : List ℕ → Type 0 where
  nothing : Complete []
  ended : (xs : List ℕ) → Complete (xs ++ line_end ∷ [])

-- the bytes that are line ends, counted
abbrev pub line_ends : List ℕ → ℕ
line_ends xs = count line_end xs

-- a line end stands in none of them
abbrev pub Whole : List (List ℕ) → Type 0
Whole [] = Unit {0}
Whole (p ∷ ps) = (line_ends p ≡ 0) × Whole ps

-- 1 for a part that has a byte
abbrev pub some : List ℕ → ℕ
some [] = 0
some (b ∷ bs) = 1

-- 'A last line with no line end is a line.'
abbrev pub line_count : List (List ℕ) → ℕ
line_count ps = length (all_but_last ps) + some (last_of ps)

-- ---- readings

-- each line is applied to what the lines before it left
abbrev pub read_all : Reading → List (List ℕ) → Reading
read_all h [] = h
read_all h (p ∷ ps) = read_all (applied h (line_in p)).after ps

-- an unfinished last line is refused, and leaves the pool
abbrev pub pool_after : List ℕ → State
pool_after xs = (read_all start (lines_of xs)).pool

-- each line is judged where it stands
abbrev pub accepted_lines : Reading → List (List ℕ) → List (List ℕ)
accepted_lines h [] = []
accepted_lines h (p ∷ ps) =
    let rest = accepted_lines (applied h (line_in p)).after ps in
    cond (ltb 0 (applied h (line_in p)).number) rest (p ∷ rest)

-- ---- what is printed

-- a printed line without its line end
abbrev pub spaced : List ℕ → List ℕ
spaced [] = []
spaced (n ∷ []) = decimal n
spaced (n ∷ m ∷ ns) = decimal n ++ space ∷ spaced (m ∷ ns)

-- one line for each, numbered from n on
abbrev pub printed_lines : Reading → ℕ → List (List ℕ) → List ℕ
printed_lines h n [] = []
printed_lines h n (p ∷ ps) = printed_line n (applied h (line_in p)) ++ printed_lines (applied h (line_in p)).after (suc n) ps

-- 'A last line with no line end is a line and is refused with 1.'
abbrev pub unfinished : ℕ → List ℕ → List ℕ
unfinished n [] = []
unfinished n (b ∷ bs) = fields (n ∷ 1 ∷ 0 ∷ 0 ∷ [])
