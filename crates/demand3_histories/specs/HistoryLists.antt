-- Demand 3 of a history, on what is printed of each line. Renders document 01, 'History text' and 'What demand 3 says', together.
-- proofs/HistoryLists.antt has the proof, proofs/Sentences.antt what follows from it.
--
--   early_number l           the refusal number of a line before the accepted range line
--   Early ps                every one of these lines is refused
--   printed_early n ps       what is printed of such lines, the first being line n
--   answered ts             the refusal number or 0, the moved points and the number of moves that the first of the calls ts answered
--   numbers_of l ts          what a line behind the range line prints: answered ts, if it is a change line
--   calls_behind l ts        the calls that are left for the lines after it: all but the first (later ts), if it is a change line
--   printed_calls n ps ts    what is printed of the lines ps, the calls ts being those of their change lines
--   blank_place, places_lent  a blank place, and the list that is lent to every change line
--   call_of k, called l cs   a change as a call, a line in front of later calls
--   calls_of_lines ps         the change lines of ps as calls
--   Ranged xs, Unranged xs  a text with an accepted range line, and one without
--   HistoryDemand3 xs       what holds of a text
use Rattle.std.specs.Prelude.{◌≡◌, false, List, [], ◌∷◌, ◌++◌, ℕ, suc, ◌≤◌, Result, Ok, Err, length, replicate}
use Rattle.refusals.specs.Replies.{number}
use Rattle.refusals.specs.declared.Refusal.{Refusal}
use Rattle.pools.specs.Pools.{state_of, pool_of}
use Rattle.slicing.specs.Changes.{fresh, Change, add, remove, resize}
use Rattle.slicing.specs.Ledger.{blank}
use Rattle.placement.specs.declared.Move.{Move}
use Rattle.history_lines.specs.declared.lines.HistoryLine.{HistoryLine}
use Rattle.history_lines.specs.declared.lines.HistoryLine.TheVariants.{Range, Add, Remove, Resize}
use Rattle.history_lines.specs.Lines.{range_outside, line_in}
use Rattle.history_numbers.specs.Text.{line_end, split}
use Rattle.history_printing.specs.Printing.{fields}
use Rattle.history.specs.Histories.{last_of, lines_of, unfinished}
use Rattle.history.specs.Histories as Histories
use Rattle.history.specs.Replay.{printed_table, replayed}
use Rattle.demand3.specs.CallLists.{Step, Call, calls_of, Kept, pool_after}
use Rattle.demand3.specs.Demand3.{Demand3}

-- ---- before the accepted range line

-- '3: a change line with no range line accepted before'. A range line within its limits is accepted
abbrev pub early_number : Result HistoryLine Refusal → ℕ
early_number (Err x) = number x
early_number (Ok (Range R M)) = 0
early_number (Ok (Add d c)) = 3
early_number (Ok (Remove d)) = 3
early_number (Ok (Resize d c)) = 3

abbrev pub Early : List (List ℕ) → Type 0
Early [] = Unit {0}
Early (p ∷ ps) = (1 ≤ early_number (line_in p)) × Early ps

abbrev pub printed_early : ℕ → List (List ℕ) → List ℕ
printed_early n [] = []
printed_early n (p ∷ ps) = fields (n ∷ early_number (line_in p) ∷ 0 ∷ 0 ∷ []) ++ printed_early (suc n) ps

-- ---- behind it

-- what a change line prints: what its call answered. There is a call for each
abbrev pub answered : List Step → List ℕ
answered [] = []
answered (t ∷ ts) = t.answer.refusal ∷ t.answer.moved ∷ t.answer.count ∷ []

-- '3: a range line after an accepted one'
abbrev pub numbers_of : Result HistoryLine Refusal → List Step → List ℕ
numbers_of (Err x) ts = number x ∷ 0 ∷ 0 ∷ []
numbers_of (Ok (Range R M)) ts = 3 ∷ 0 ∷ 0 ∷ []
numbers_of (Ok (Add d c)) ts = answered ts
numbers_of (Ok (Remove d)) ts = answered ts
numbers_of (Ok (Resize d c)) ts = answered ts

-- a change line uses up a call, any other none
abbrev pub later : List Step → List Step
later [] = []
later (t ∷ ts) = ts

abbrev pub calls_behind : Result HistoryLine Refusal → List Step → List Step
calls_behind (Err x) ts = ts
calls_behind (Ok (Range R M)) ts = ts
calls_behind (Ok (Add d c)) ts = later ts
calls_behind (Ok (Remove d)) ts = later ts
calls_behind (Ok (Resize d c)) ts = later ts

abbrev pub printed_calls : ℕ → List (List ℕ) → List Step → List ℕ
printed_calls n [] ts = []
printed_calls n (p ∷ ps) ts = fields (n ∷ numbers_of (line_in p) ts) ++ printed_calls (suc n) ps (calls_behind (line_in p) ts)

abbrev pub blank_place : Move
blank_place = record { start = 0; length = 0; from = 0; to = 0 }

-- 'Its list has 4,096 places.'
abbrev pub places_lent : List Move
places_lent = replicate 4096 blank_place

abbrev pub call_of : Change → Call
call_of k = record { change = k; lent = places_lent }

-- a line in front of later calls
abbrev pub called : Result HistoryLine Refusal → List Call → List Call
called (Err x) cs = cs
called (Ok (Range R M)) cs = cs
called (Ok (Add d c)) cs = call_of (add d c) ∷ cs
called (Ok (Remove d)) cs = call_of (remove d) ∷ cs
called (Ok (Resize d c)) cs = call_of (resize d c) ∷ cs

-- accepted or refused by the pool, in their order
abbrev pub calls_of_lines : List (List ℕ) → List Call
calls_of_lines [] = []
calls_of_lines (p ∷ ps) = called (line_in p) (calls_of_lines ps)

-- ---- texts

-- a text with an accepted range line: all lines before it are refused. The change lines behind it are calls that kept their promises, from a
-- fresh pool on. Demand 3 holds of them, and what is printed are their answers and the table of the pool that they left
pub record Ranged (xs : List ℕ) : Type 0 where
  pub front : List (List ℕ)
  pub line : List ℕ
  pub back : List (List ℕ)
  pub parts : lines_of xs ≡ front ++ line ∷ back
  pub early : Early front
  pub range : ℕ
  pub limit : ℕ
  pub ranged : line_in line ≡ Ok (Range range limit)
  pub fits : range_outside range limit ≡ false
  pub steps : List Step
  pub asked : calls_of steps ≡ calls_of_lines back
  pub kept : Kept (pool_of (fresh range limit)) steps
  pub claim : Demand3 range limit (pool_of (fresh range limit)) blank steps
  pub left : pool_of (Histories.pool_after xs) ≡ pool_after (pool_of (fresh range limit)) steps
  pub printed : replayed xs
      ≡ printed_early 1 front ++ fields (suc (length front) ∷ 0 ∷ 0 ∷ 0 ∷ []) ++ printed_calls (suc (suc (length front))) back steps
      ++ unfinished (suc (length (lines_of xs))) (last_of (split line_end xs))
      ++ printed_table (state_of (pool_after (pool_of (fresh range limit)) steps))

-- a text without one: every line is refused, and the pool is the one that stands in place of none
pub record Unranged (xs : List ℕ) : Type 0 where
  pub early : Early (lines_of xs)
  pub left : Histories.pool_after xs ≡ fresh 1 1
  pub printed : replayed xs
      ≡ printed_early 1 (lines_of xs) ++ unfinished (suc (length (lines_of xs))) (last_of (split line_end xs)) ++ printed_table (fresh 1 1)

pub data HistoryDemand3 (xs : List ℕ) : Type 0 where
  ranged : Ranged xs → HistoryDemand3 xs
  unranged : Unranged xs → HistoryDemand3 xs
