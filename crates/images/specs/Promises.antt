-- What the offered calls on images promise.
--
--   refusal n                 the answer of a refused read
--   answer_of r                the answer of the read that leaves r: a refused one gives a fresh pool
--   ReadAs xs r               r answers the read of the bytes xs: one of four cases, each with the whole answer
--   write_answer, buffer_after  the answer of a write of a state into a buffer, and the buffer afterwards
--   WrittenAs p b r a         r answers the write of the pool p into the buffer b, and a is the buffer afterwards
use Rattle.std.specs.Prelude.{◌≡◌, true, false, cond, List, ◌++◌, ℕ, Result, Ok, Err, ltb, length, drop}
use Rattle.pools.specs.Pools.{state_of, pool_of, ValidPool}
use Rattle.pools.specs.declared.Pool.{Pool}
use Rattle.pools.specs.declared.PoolAnswer.{PoolAnswer}
use Rattle.slicing.specs.Changes.{State, fresh}
use Rattle.refusals.specs.Replies.{number, reply_of, replied, declined}
use Rattle.refusals.specs.declared.Refusal.{Refusal}
use Rattle.refusals.specs.declared.Refusal.TheVariants.{Outside, ShortBuffer}
use Rattle.image_numbers.specs.Format.{version, image_of, version_in, state_in, marked, Sound, Image}
use Rattle.images.specs.declared.reader.ReadPool.{ReadPool}

-- 'a refused call that makes a pool, as an image read does, gives a fresh one with R = 1 and M = 1'
abbrev pub refusal : ℕ → PoolAnswer
refusal n = record { refusal = n; pool = pool_of (fresh 1 1) }

abbrev pub answer_of : Result ReadPool Refusal → PoolAnswer
answer_of (Ok r) = record { refusal = 0; pool = r.pool }
answer_of (Err e) = refusal (number e)

-- 'Checks run down the table; the first that applies counts': 14, 15, 16, else the pool
pub data ReadAs (xs : List ℕ) (r : PoolAnswer) : Type 0 where
  unmarked : marked xs ≡ false → r ≡ refusal 14 → ReadAs xs r
  versioned : marked xs ≡ true → (version_in xs ≡ version → ⊥) → r ≡ refusal 15 → ReadAs xs r
  faulty : marked xs ≡ true → version_in xs ≡ version → (Sound xs → ⊥) → r ≡ refusal 16 → ReadAs xs r
  accepted : Image xs → r ≡ record { refusal = 0; pool = pool_of (state_in xs) } → ReadAs xs r

-- '17: buffer too short', else the image's length: 'a write answers it'
abbrev pub write_answer : State → ℕ → Result ℕ Refusal
write_answer s size = cond (ltb size (length (image_of s))) (Err ShortBuffer) (Ok (length (image_of s)))

-- 'Bytes past a written image stay.'
abbrev pub buffer_after : State → List ℕ → List ℕ
buffer_after s before = cond (ltb (length before) (length (image_of s))) before (image_of s ++ drop (length (image_of s)) before)

pub record WrittenAs (p : Pool) (before : List ℕ) (r : Result ℕ Refusal) (after : List ℕ) : Type 0 where
  pub valid : ValidPool p → (r ≡ write_answer (state_of p) (length before)) × (after ≡ buffer_after (state_of p) before)
  pub reply : ValidPool p
      → reply_of r ≡ cond (ltb (length before) (length (image_of (state_of p)))) (declined 17) (replied (length (image_of (state_of p))))
  pub invalid : (ValidPool p → ⊥) → (r ≡ Err Outside) × (after ≡ before)
  pub invalid_reply : (ValidPool p → ⊥) → reply_of r ≡ declined 2
