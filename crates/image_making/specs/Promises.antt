-- What the calls that make a pool promise. A pool is left as the bytes of its image.
--
--   Checked xs r            r answers the check of an image
--   Stored, stored_as        what a call that makes a pool leaves; a state stored as its image
--   FreshStored, ReplayStored   the calls for a fresh pool and for the pool after a history
--   Transcript              what the call for a transcript leaves
use Rattle.std.specs.Prelude.{◌≡◌, cond, ◌||◌, List, ◌∷◌, ◌++◌, ℕ, ltb, length, drop}
use Rattle.slicing.specs.Changes.{State, fresh}
use Rattle.slicing.specs.Limits.{max_range, max_limit, outside}
use Rattle.image_numbers.specs.Format.{image_of}
use Rattle.images.specs.OnImages.{OnImage}
use Rattle.history.specs.Histories.{pool_after}
use Rattle.history.specs.Promises.{room}
use Rattle.history.specs.Replay.{max_text, transcript}

abbrev pub Checked : List ℕ → ℕ → Type 0
Checked xs r = OnImage xs (λ n. n) (λ s. 0) r

-- ---- calls that make a pool

-- the number, the buffer for the image and the places of the answer, all afterwards
pub record Stored : Type 0 where
  pub number : ℕ
  pub image : List ℕ
  pub answer : List ℕ

-- a refusal's number and zero; the buffer stays
abbrev pub unstored : ℕ → List ℕ → List ℕ → Stored
unstored n b a = record { number = n; image = b; answer = 0 ∷ drop 1 a }

-- the image and its length, or 17 where the buffer is too short
abbrev pub stored_as : State → List ℕ → List ℕ → Stored
stored_as s b a =
    cond (ltb (length b) (length (image_of s))) (unstored 17 b a)
    (record { number = 0; image = image_of s ++ drop (length (image_of s)) b; answer = length (image_of s) ∷ drop 1 a })

-- without a place for the answer 17, and all stays
abbrev pub answered_in : ℕ → List ℕ → List ℕ → Stored → Stored
answered_in k b a r = cond (ltb (length a) k) (record { number = 17; image = b; answer = a }) r

abbrev pub FreshStored : ℕ → ℕ → List ℕ → List ℕ → Stored → Type 0
FreshStored R M b a r = r ≡ answered_in 1 b a (cond (outside max_range R || outside max_limit M) (unstored 2 b a) (stored_as (fresh R M) b a))

-- 2 for more than 65,536 bytes
abbrev pub ReplayStored : List ℕ → List ℕ → List ℕ → Stored → Type 0
ReplayStored xs b a r = r ≡ answered_in 1 b a (cond (ltb max_text (length xs)) (unstored 2 b a) (stored_as (pool_after xs) b a))

-- what `slices` prints, and its length, or 17 where the buffer is too short for every transcript
abbrev pub Transcript : List ℕ → List ℕ → List ℕ → Stored → Type 0
Transcript xs b a r =
    r ≡ answered_in 1 b a (cond (ltb (length b) room) (unstored 17 b a)
    (record { number = 0; image = transcript xs ++ drop (length (transcript xs)) b; answer = length (transcript xs) ∷ drop 1 a }))
