-- Capacities of a history. Renders document 01, 'History text' and the rows of 'Where a call stops' on text.
--
--   capacity_answer p    the answer of the capacity reader, and parsed_reply p its reply
--   CapacityRead xs r   r answers the call for the capacity that the word xs is
use Rattle.std.specs.Prelude.{◌≡◌, cond, List, ℕ, Option, None, Some, Result, Ok, Err}
use Rattle.refusals.specs.Replies.{Reply, reply_of, replied, declined}
use Rattle.refusals.specs.declared.Refusal.{Refusal}
use Rattle.refusals.specs.declared.Refusal.TheVariants.{Shapeless, Outside}
use Rattle.slicing.specs.Limits.{max_capacity, outside}
use Rattle.history_numbers.specs.Text.{capacity_in}

-- 1 for a word that is no capacity, 2 for one outside its limits
abbrev pub capacity_answer : Option ℕ → Result ℕ Refusal
capacity_answer None = Err Shapeless
capacity_answer (Some c) = cond (outside max_capacity c) (Err Outside) (Ok c)

abbrev pub parsed_reply : Option ℕ → Reply
parsed_reply None = declined 1
parsed_reply (Some c) = cond (outside max_capacity c) (declined 2) (replied c)

pub record CapacityRead (xs : List ℕ) (r : Result ℕ Refusal) : Type 0 where
  pub answer : r ≡ capacity_answer (capacity_in xs)
  pub reply : reply_of r ≡ parsed_reply (capacity_in xs)
