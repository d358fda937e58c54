-- What the offered call on one line of history text promises.
--
--   result_line ..        the result of a change line, from an outcome of the rules
--   ranged_line, applied_line h f l   the result of a line, f answering the changes
--   ChangedLine h k r     r answers the change line k on the history h
--   Said h l r            r answers a line that says l on the history h
--   Applied h xs r        r answers the line xs on the history h
use Rattle.std.specs.Prelude.{◌≡◌, true, false, cond, List, ℕ, Result, Ok, Err}
use Rattle.refusals.specs.Replies.{number}
use Rattle.refusals.specs.declared.Refusal.{Refusal}
use Rattle.pools.specs.Pools.{state_of, pool_of, ValidPool}
use Rattle.slicing.specs.Changes.{fresh, Change, add, remove, resize, Outcome, change}
use Rattle.history_lines.specs.declared.lines.HistoryLine.{HistoryLine}
use Rattle.history_lines.specs.declared.lines.HistoryLine.TheVariants.{Range, Add, Remove, Resize}
use Rattle.history_lines.specs.Lines.{range_outside, line_in}
use Rattle.history_steps.specs.declared.applying.History.{History}
use Rattle.history_steps.specs.declared.applying.LineResult.{LineResult}
use Rattle.history_steps.specs.Steps.{places}

abbrev pub refused : History → ℕ → LineResult
refused h n = record { refusal = n; moved = 0; count = 0; history = h }

abbrev pub result_line : Outcome → LineResult
result_line o =
    record { refusal = o.number; moved = o.moved; count = o.count; history = record { begun = true; pool = pool_of o.state } }

-- '3: a range line after an accepted one'
abbrev pub ranged_line : History → ℕ → ℕ → LineResult
ranged_line h R M =
    cond h.begun (refused h 3) (record { refusal = 0; moved = 0; count = 0; history = record { begun = true; pool = pool_of (fresh R M) } })

-- '3: a change line with no range line accepted before'; else f answers the change
abbrev pub applied_line : History → (Change → LineResult) → Result HistoryLine Refusal → LineResult
applied_line h f (Err e) = refused h (number e)
applied_line h f (Ok (Range R M)) = ranged_line h R M
applied_line h f (Ok (Add d c)) = cond h.begun (f (add d c)) (refused h 3)
applied_line h f (Ok (Remove d)) = cond h.begun (f (remove d)) (refused h 3)
applied_line h f (Ok (Resize d c)) = cond h.begun (f (resize d c)) (refused h 3)

-- of a valid pool the rules' outcome; a change of any other is refused with 2
pub record ChangedLine (h : History) (k : Change) (r : LineResult) : Type 0 where
  pub valid : ValidPool h.pool → r ≡ cond h.begun (result_line (change (state_of h.pool) places k)) (refused h 3)
  pub invalid : (ValidPool h.pool → ⊥) → r ≡ cond h.begun (refused h 2) (refused h 3)

-- what a line says, with a range within its limits
abbrev pub Said : History → Result HistoryLine Refusal → LineResult → Type 0
Said h (Err e) r = r ≡ refused h (number e)
Said h (Ok (Range R M)) r = range_outside R M ≡ false → r ≡ ranged_line h R M
Said h (Ok (Add d c)) r = ChangedLine h (add d c) r
Said h (Ok (Remove d)) r = ChangedLine h (remove d) r
Said h (Ok (Resize d c)) r = ChangedLine h (resize d c) r

pub record Applied (h : History) (xs : List ℕ) (r : LineResult) : Type 0 where
  pub valid : ValidPool h.pool → r ≡ applied_line h (λ k. result_line (change (state_of h.pool) places k)) (line_in xs)
  pub invalid : (ValidPool h.pool → ⊥) → r ≡ applied_line h (λ k. refused h 2) (line_in xs)
