-- What lookups answer, as numbers in lent places.
--
--   owner_told a r       an owner in the first place of an answer
--   row_of u             the ten numbers of an outcome
--   counters_in t        the counters of a tally
--   tally_of c t         the tally afterwards
use Rattle.std.specs.Prelude.{List, [], ◌∷◌, ◌++◌, ℕ, Result, Ok, Err, drop}
use Rattle.refusals.specs.Replies.{number}
use Rattle.refusals.specs.declared.Refusal.{Refusal}
use Rattle.slicing_core.specs.Rows.{at}
use Rattle.lookups.specs.Copies.{Outcome}
use Rattle.lookups.specs.declared.Counters.{Counters}
use Rattle.answers.specs.Answers.{Answer, zeros}

-- the owner's id in the first place, zero there on a refusal
abbrev pub owner_told : List ℕ → Result ℕ Refusal → Answer
owner_told a (Err e) = record { number = number e; places = zeros 1 a }
owner_told a (Ok d) = record { number = 0; places = d ∷ drop 1 a }

-- ten numbers: the refusal number or 0, eight owners, the probes
abbrev pub row_of : Outcome → List ℕ
row_of u = u.number ∷ u.owners ++ u.probes ∷ []

-- the tally is two numbers: lookups and probes
abbrev pub counters_in : List ℕ → Counters
counters_in t = record { lookups = at t 0; probes = at t 1 }

abbrev pub tally_of : Counters → List ℕ → List ℕ
tally_of c t = c.lookups ∷ c.probes ∷ drop 2 t
