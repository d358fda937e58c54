-- What the offered calls on whole history texts promise.
--
--   Transcribed xs ..     the answer of a transcript of the text xs, and the buffer afterwards
--   Left xs r             r answers the call for the pool that the text xs leaves
use Rattle.std.specs.Prelude.{◌≡◌, cond, List, ◌++◌, ℕ, Result, Ok, Err, ltb, length, drop}
use Rattle.refusals.specs.Replies.{reply_of, replied, declined}
use Rattle.refusals.specs.declared.Refusal.{Refusal}
use Rattle.refusals.specs.declared.Refusal.TheVariants.{ShortBuffer}
use Rattle.pools.specs.Pools.{pool_of}
use Rattle.pools.specs.declared.PoolAnswer.{PoolAnswer}
use Rattle.slicing.specs.Changes.{fresh}
use Rattle.history.specs.Histories.{pool_after}
use Rattle.history.specs.Replay.{max_text, transcript}

-- the room that every transcript fits in: 44 bytes for each of 65,536 lines, 33 for each of 4,096 intervals, 6 for `table`
abbrev pub room : ℕ
room = 3145728

-- a buffer without that room is refused with 17, and stays
pub record Transcribed (xs before : List ℕ) (r : Result ℕ Refusal) (after : List ℕ) : Type 0 where
  pub answer : r ≡ cond (ltb (length before) room) (Err ShortBuffer) (Ok (length (transcript xs)))
  pub reply : reply_of r ≡ cond (ltb (length before) room) (declined 17) (replied (length (transcript xs)))
  pub buffer : after ≡ cond (ltb (length before) room) before (transcript xs ++ drop (length (transcript xs)) before)

-- the pool that a text leaves; more than 65,536 bytes are refused with 2, and a refused call that makes a pool gives a fresh one with R = 1 and M = 1
abbrev pub Left : List ℕ → PoolAnswer → Type 0
Left xs r = r ≡ cond (ltb max_text (length xs)) (record { refusal = 2; pool = pool_of (fresh 1 1) }) (record { refusal = 0; pool = pool_of (pool_after xs) })
