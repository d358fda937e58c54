-- What opening the image of a pool promises, and what lookups in a pool that was opened do.
--
--   OpenedMemory, opened_as       what opening an image leaves; from the state that the image gives
--   OwnedIn, CopiedOneIn         the lookups on the arrays of an opened pool, of any contents
use Rattle.std.specs.Prelude.{◌≡◌, List, ◌∷◌, ◌++◌, ℕ, ◌≤◌, ◌<◌, Result, min, length, drop}
use Rattle.refusals.specs.declared.Refusal.{Refusal}
use Rattle.slicing.specs.Changes.{State}
use Rattle.slicing.specs.Limits.{max_range}
use Rattle.slicing_core.specs.Rows.{at}
use Rattle.pools.specs.Pools.{padded, starts_of, owners_of}
use Rattle.lookup_core.specs.Halving.{owner_found, clamped}
use Rattle.lookup_core.specs.Probing.{owner_of}
use Rattle.lookups.specs.Copies.{Outcome, copies_of}
use Rattle.lookups.specs.Promises.{owner_answer}
use Rattle.images.specs.OnImages.{OnImage}
use Rattle.answers.specs.Answers.{Answer}
use Rattle.lookup_numbers.specs.Told.{owner_told}
use Rattle.image_lookups.specs.Promises.{CopiesLeft, copied_by}

-- the number, the starts and the owners of the intervals, and three numbers (range, intervals, devices), all afterwards
pub record OpenedMemory : Type 0 where
  pub number : ℕ
  pub starts : List ℕ
  pub owners : List ℕ
  pub numbers : List ℕ

-- a refusal's number and zeros; the arrays stay
abbrev pub unopened : ℕ → List ℕ → List ℕ → List ℕ → OpenedMemory
unopened n s o m = record { number = n; starts = s; owners = o; numbers = 0 ∷ 0 ∷ 0 ∷ drop 3 m }

-- the table in the first 4,096 places, those that it does not use 0; the places behind stay
abbrev pub opened_as : List ℕ → List ℕ → List ℕ → State → OpenedMemory
opened_as s o m t = record {
  number = 0;
  starts = padded 4096 (starts_of 0 t.table) ++ drop 4096 s;
  owners = padded 4096 (owners_of t.table) ++ drop 4096 o;
  numbers = t.range ∷ length t.table ∷ length t.devices ∷ drop 3 m;
}

pub record OpenedFrom (xs s o m : List ℕ) (r : OpenedMemory) : Type 0 where
  pub no_starts : length s < 4096 → r ≡ record { number = 17; starts = s; owners = o; numbers = m }
  pub no_owners : length o < 4096 → r ≡ record { number = 17; starts = s; owners = o; numbers = m }
  pub no_numbers : length m < 3 → r ≡ record { number = 17; starts = s; owners = o; numbers = m }
  pub room : 4096 ≤ length s → 4096 ≤ length o → 3 ≤ length m → OnImage xs (λ n. unopened n s o m) (opened_as s o m) r

-- arrays and numbers of any contents: 13, 10, or the owner that halving finds in them
abbrev pub answer_in : List ℕ → List ℕ → List ℕ → ℕ → Result ℕ Refusal
answer_in s o m x = owner_answer (at m 0) (at m 2) x (owner_found s o (clamped (at m 1)) x)

pub record OwnedIn (s o m : List ℕ) (x : ℕ) (a : List ℕ) (r : Answer) : Type 0 where
  pub short : length a < 1 → r ≡ record { number = 17; places = a }
  pub room : 1 ≤ length a → r ≡ owner_told a (answer_in s o m x)

-- arrays and numbers of any contents; a range above the largest is taken as the largest
abbrev pub outcome_in : List ℕ → List ℕ → List ℕ → ℕ → ℕ → Outcome
outcome_in s o m k block = copies_of (owner_of s o (at m 1) (min (at m 0) max_range) block) (at m 2) k

pub record CopiedOneIn (s o m : List ℕ) (block k : ℕ) (t w : List ℕ) (r : CopiesLeft) : Type 0 where
  pub no_tally : length t < 2 → r ≡ record { number = 17; tally = t; rows = w }
  pub no_row : length w < 10 → r ≡ record { number = 17; tally = t; rows = w }
  pub room : 2 ≤ length t → 10 ≤ length w → r ≡ copied_by t w (outcome_in s o m k block)
