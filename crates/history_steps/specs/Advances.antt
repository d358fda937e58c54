-- One line of a history on an opened pool.
--
--   reading_in b o table        the reading that an opened pool holds, its table in the array
--   changing c                 the line that says the change c
--   result_with s table         the result that an accepted step gives, its table in the array
--   Advanced h l r before after   r is what a line that says l gives on the reading h, whose table is `before`; `after` is the table afterwards
use Rattle.std.specs.Prelude.{◌≡◌, Bool, true, List, ℕ, Ok, Err}
use Rattle.std.specs.Prelude as Prelude
use Rattle.refusals.specs.Replies.{number}
use Rattle.refusals.specs.declared.Refusal.{Refusal}
use Rattle.opened.specs.OpenPools.{state_in, Open}
use Rattle.opened.specs.declared.Opened.{Opened}
use Rattle.calls.specs.declared.Call.{Call}
use Rattle.history_lines.specs.declared.lines.HistoryLine.{HistoryLine}
use Rattle.history_lines.specs.declared.lines.HistoryLine.TheVariants.{Add, Remove, Resize}
use Rattle.history_steps.specs.Steps.{Reading, Result, refusal, applied}
use Rattle.history_steps.specs.declared.advancing.Step.{Step}

abbrev pub reading_in : Bool → Opened → List ℕ → Reading
reading_in b o table = record { begun = b; pool = state_in o table }

abbrev pub changing : Call → HistoryLine
changing (Call.Add d c) = Add d c
changing (Call.Remove d) = Remove d
changing (Call.Resize d c) = Resize d c

-- a line that is accepted leaves a history that has begun
abbrev pub result_with : Step → List ℕ → Result
result_with s table = record { number = 0; moved = s.moved; count = s.count; after = reading_in true s.pool table }

pub data Advanced (h : Reading) (l : Prelude.Result HistoryLine Refusal) (r : Prelude.Result Step Refusal) (before after : List ℕ) : Type 0 where
  -- 'A refused line changes nothing.'
  refused : (e : Refusal) → r ≡ Err e → applied h l ≡ refusal h (number e) → after ≡ before → Advanced h l r before after
  accepted : (s : Step) → r ≡ Ok s → applied h l ≡ result_with s after → Open s.pool after → Advanced h l r before after
