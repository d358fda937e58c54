-- What lookups in the pool that an image describes promise.
--
--   Owned xs x a r                        r is what the call for the owner of the point x of the image xs leaves of the places a
--   CopiesLeft, outcome_of, copied_by       what a call for copies leaves; the outcome of a block, by the rules; what it leaves
--   CopiedOne, CopiedMany                 of the image xs, one block or many
use Rattle.std.specs.Prelude.{◌≡◌, cond, List, [], ◌∷◌, ◌++◌, ℕ, ◌*◌, ◌/◌, ◌≤◌, ◌<◌, eqb, length, drop, replicate}
use Rattle.slicing.specs.Changes.{State}
use Rattle.slicing.specs.Runs.{owner_at}
use Rattle.lookup_core.specs.Probes.{point_of}
use Rattle.lookups.specs.Copies.{Outcome, copies_of}
use Rattle.lookups.specs.Counting.{counted}
use Rattle.lookups.specs.Promises.{owner_answer}
use Rattle.lookups.specs.declared.Counters.{Counters}
use Rattle.lookup_numbers.specs.Told.{owner_told, row_of, counters_in, tally_of}
use Rattle.images.specs.OnImages.{OnImage}
use Rattle.answers.specs.Answers.{Answer, zeros}

-- ---- the owner of a point

pub record Owned (xs : List ℕ) (x : ℕ) (a : List ℕ) (r : Answer) : Type 0 where
  pub short : length a < 1 → r ≡ record { number = 17; places = a }
  pub room : 1 ≤ length a
      → OnImage xs (λ n. record { number = n; places = zeros 1 a })
      (λ s. owner_told a (owner_answer s.range (length s.devices) x (owner_at s.table x))) r

-- ---- copies

-- the number, the tally and the rows of the answer, all afterwards
pub record CopiesLeft : Type 0 where
  pub number : ℕ
  pub tally : List ℕ
  pub rows : List ℕ

-- the outcome of a block, by the rules
abbrev pub outcome_of : State → ℕ → ℕ → Outcome
outcome_of s k block = copies_of (λ t. owner_at s.table (point_of block t s.range)) (length s.devices) k

-- an accepted lookup counts, a refused one does not
abbrev pub counted_by : Outcome → Counters → Counters
counted_by u c = cond (eqb u.number 0) (counted c u.probes) c

-- one block
abbrev pub copied_by : List ℕ → List ℕ → Outcome → CopiesLeft
copied_by t w u = record { number = u.number; tally = tally_of (counted_by u (counters_in t)) t; rows = row_of u ++ drop 10 w }

abbrev pub copied_as : ℕ → ℕ → List ℕ → List ℕ → State → CopiesLeft
copied_as block k t w s = copied_by t w (outcome_of s k block)

pub record CopiedOne (xs : List ℕ) (block k : ℕ) (t w : List ℕ) (r : CopiesLeft) : Type 0 where
  pub no_tally : length t < 2 → r ≡ record { number = 17; tally = t; rows = w }
  pub no_row : length w < 10 → r ≡ record { number = 17; tally = t; rows = w }
  pub room : 2 ≤ length t → 10 ≤ length w
      → OnImage xs (λ n. record { number = n; tally = t; rows = n ∷ replicate 9 0 ++ drop 10 w }) (copied_as block k t w) r

-- the rows of many blocks, and the counters after them
abbrev pub rows_for : State → ℕ → List ℕ → List ℕ
rows_for s k [] = []
rows_for s k (b ∷ bs) = row_of (outcome_of s k b) ++ rows_for s k bs

abbrev pub counted_for : State → ℕ → List ℕ → Counters → Counters
counted_for s k [] c = c
counted_for s k (b ∷ bs) c = counted_for s k bs (counted_by (outcome_of s k b) c)

abbrev pub many_as : List ℕ → ℕ → List ℕ → List ℕ → State → CopiesLeft
many_as bs k t w s =
    record { number = 0; tally = tally_of (counted_for s k bs (counters_in t)) t; rows = rows_for s k bs ++ drop (10 * length bs) w }

pub record CopiedMany (xs bs : List ℕ) (k : ℕ) (t w : List ℕ) (r : CopiesLeft) : Type 0 where
  pub no_tally : length t < 2 → r ≡ record { number = 17; tally = t; rows = w }
  pub no_rows : length w / 10 < length bs → r ≡ record { number = 17; tally = t; rows = w }
  pub room : 2 ≤ length t → length bs ≤ length w / 10
      → OnImage xs (λ n. record { number = n; tally = t; rows = w }) (many_as bs k t w) r
