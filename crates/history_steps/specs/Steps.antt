-- What one line of a history does. Renders document 01, 'History text'.
--
--   Reading             whether a range line was accepted, and the pool
--   Result              what a line gives: the refusal number or 0, the moved points, the number of moves, the reading afterwards
--   applied h l         the result of a line
use Rattle.std.specs.Prelude.{Bool, true, false, cond, List, ℕ, Ok, Err, replicate}
use Rattle.std.specs.Prelude as Prelude
use Rattle.refusals.specs.Replies.{number}
use Rattle.refusals.specs.declared.Refusal.{Refusal}
use Rattle.slicing.specs.Changes.{State, fresh, Change, add, remove, resize, Outcome, change}
use Rattle.slicing.specs.SixSteps.{Move, move}
use Rattle.history_lines.specs.declared.lines.HistoryLine.{HistoryLine}
use Rattle.history_lines.specs.declared.lines.HistoryLine.TheVariants.{Range, Add, Remove, Resize}

pub record Reading : Type 0 where
  pub begun : Bool
  pub pool : State

-- before a range line there is no pool; one of R = 1 and M = 1 stands in its place
abbrev pub start : Reading
start = record { begun = false; pool = fresh 1 1 }

pub record Result : Type 0 where
  pub number : ℕ
  pub moved : ℕ
  pub count : ℕ
  pub after : Reading

-- 'A refused line changes nothing.'
abbrev pub refusal : Reading → ℕ → Result
refusal h n = record { number = n; moved = 0; count = 0; after = h }

-- 'Its list has 4,096 places.'
abbrev pub places : List Move
places = replicate 4096 (move 0 0 0 0)

abbrev pub result_of : Outcome → Result
result_of o = record { number = o.number; moved = o.moved; count = o.count; after = record { begun = true; pool = o.state } }

-- '3: a change line with no range line accepted before'
abbrev pub changed : Reading → Change → Result
changed h k = cond h.begun (result_of (change h.pool places k)) (refusal h 3)

-- '3: a range line after an accepted one'
abbrev pub applied : Reading → Prelude.Result HistoryLine Refusal → Result
applied h (Err e) = refusal h (number e)
applied h (Ok (Range R M)) = cond h.begun (refusal h 3) (record { number = 0; moved = 0; count = 0; after = record { begun = true; pool = fresh R M } })
applied h (Ok (Add d c)) = changed h (add d c)
applied h (Ok (Remove d)) = changed h (remove d)
applied h (Ok (Resize d c)) = changed h (resize d c)
