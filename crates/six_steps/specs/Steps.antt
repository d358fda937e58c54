-- What the six steps give together.
--
--   Stepped table has due n work next r     r is what the steps make of the table: `work` has the turns, `next` the new table
use Rattle.std.specs.Prelude.{◌≡◌, List, ℕ, ◌/◌, ◌%◌, ◌≤◌, ◌<◌, length}
use Rattle.slicing.specs.Runs.{Run, total, coalesce}
use Rattle.slicing.specs.SixSteps.{same_turn, turns, new_table, moves}
use Rattle.slicing.specs.SixSteps.{points as points_of}
use Rattle.slicing_core.specs.Rows.{at}
use Rattle.packed_runs.specs.Words.{room, runs, turns_of, Labelled}
use Rattle.six_steps.specs.declared.steps.Done.{Done}

pub record Stepped (table has due : List (Run ℕ)) (n : ℕ) (work next : List ℕ) (r : Done) : Type 0 where
  pub turned : turns_of work 0 r.turns ≡ coalesce same_turn (turns table has due)
  pub renewed : runs next 0 r.intervals ≡ new_table (turns table has due)
  pub moved : r.moved ≡ points_of (moves (turns table has due))
  pub count : r.count ≡ length (moves (turns table has due))
  pub labels : Labelled n next r.intervals
  -- the old owner and the new one of each turn are rows of the n
  pub owners : (i : ℕ) → i < r.turns → (at work i % 65536 / 256 < n) × (at work i % 65536 % 256 < n)
  pub same : total (runs work 0 r.turns) ≡ total table
  pub most : r.turns ≤ room
  pub work_size : length work ≡ room
  pub next_size : length next ≡ room
