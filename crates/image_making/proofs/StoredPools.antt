-- Calls that make a pool or a transcript: what they leave, from what the calls beneath them answered.
--
-- an image: stored_whole, stored_none (the buffer is too short)
-- a made pool: stored_from m (what is left of it), made_valid, made_stored (from its number and its pool)
-- the calls: fresh_valid_pool, fresh_stored; replay_valid_pool, replay_stored
-- a transcript: transcript_whole, transcript_none (the buffer is too short)
use mathlib.Core.Path.{◌≡◌, refl, sym, ap, ◌∙◌, subst}
use mathlib.Core.Bool.{Bool, true, false, cond, ◌||◌}
use mathlib.Core.List.{List, ◌∷◌, ◌++◌}
use Prim.Native.Nat.{ℕ, ◌≤◌}
use lib.Dec.{ltb}
use lib.ListN.{length, drop}
use borrow.Author.Tests.{le-ltb}
use Rattle.std.specs.Prelude.{Result, Ok, Err}
use Rattle.refusals.specs.Replies.{number}
use Rattle.refusals.specs.declared.Refusal.{Refusal}
use Rattle.refusals.specs.declared.Refusal.TheVariants.{ShortBuffer}
use Rattle.slicing.specs.Changes.{State, fresh}
use Rattle.slicing.specs.Limits.{max_range, max_limit, outside}
use Rattle.slicing.specs.Validity.{Valid}
use Rattle.pools.specs.Pools.{state_of, pool_of, ValidPool}
use Rattle.pools.specs.Promises.{Fresh}
use Rattle.pools.specs.declared.PoolAnswer.{PoolAnswer}
use Rattle.pools.proofs.PoolLaws.{state_of_pool_of, valid_pool_pool_of}
use Rattle.image_numbers.specs.Format.{image_of}
use Rattle.images.specs.Promises.{write_answer, buffer_after}
use Rattle.history.specs.Histories.{pool_after}
use Rattle.history.specs.Promises.{room, Transcribed}
use Rattle.history.specs.Replay.{max_text, transcript}
use Rattle.history.proofs.ReplayLaws.{fresh_valid, pool_after_valid}
use Rattle.image_making.specs.Promises.{Stored, unstored, stored_as, answered_in, FreshStored, ReplayStored, Transcript}

-- ---- answers

pub answered : (k : ℕ) (b a : List ℕ) (r s : Stored) → k ≤ length a → r ≡ s → r ≡ answered_in k b a s
answered k b a r s h e = rw (le-ltb (length a) k h) e

-- the bytes i put, or not, t telling whether the buffer is too short: what the call beneath answers, and what is left of it
abbrev put_answer : Bool → List ℕ → Result ℕ Refusal
put_answer t i = cond t (Err ShortBuffer) (Ok (length i))

abbrev left : Bool → List ℕ → List ℕ → List ℕ → Stored
left t i b a = cond t (unstored 17 b a) (record { number = 0; image = i ++ drop (length i) b; answer = length i ∷ drop 1 a })

abbrev left_by : Result ℕ Refusal → List ℕ → List ℕ → Stored
left_by (Ok n) b' a = record { number = 0; image = b'; answer = n ∷ drop 1 a }
left_by (Err x) b' a = record { number = number x; image = b'; answer = 0 ∷ drop 1 a }

put_left : (t : Bool) (i b b' a : List ℕ) {r : Result ℕ Refusal} → r ≡ put_answer t i → b' ≡ cond t b (i ++ drop (length i) b)
    → left_by r b' a ≡ left t i b a
put_left true i b b' a e h = rw (e, h)
put_left false i b b' a e h = rw (e, h)

-- ---- an image

module _ (s : State) (b b' a : List ℕ) (f : b' ≡ buffer_after s b) where
  pub stored_whole : (n : ℕ) → Ok n ≡ write_answer s (length b) → (a' : List ℕ) → a' ≡ n ∷ drop 1 a
      → record { number = 0; image = b'; answer = a' } ≡ stored_as s b a
  stored_whole n h a' k =
      rw k (put_left (ltb (length b) (length (image_of s))) (image_of s) b b' a h f)

  pub stored_none : (x : Refusal) → Err x ≡ write_answer s (length b) → (a' : List ℕ) → a' ≡ 0 ∷ drop 1 a
      → record { number = number x; image = b'; answer = a' } ≡ stored_as s b a
  stored_none x h a' k =
      rw k (put_left (ltb (length b) (length (image_of s))) (image_of s) b b' a h f)

-- ---- a made pool

abbrev pub stored_from : PoolAnswer → List ℕ → List ℕ → Stored
stored_from m b a = cond (ltb 0 m.refusal) (unstored m.refusal b a) (stored_as (state_of m.pool) b a)

-- t tells whether the call is refused with 2; s is the state that it makes
module _ (s : State) (m : PoolAnswer) where
  pub made_valid : (t : Bool) → (t ≡ false → Valid s) → m.pool ≡ pool_of (cond t (fresh 1 1) s) → ValidPool m.pool
  made_valid true v p = subst ValidPool (sym p) (valid_pool_pool_of (fresh 1 1) (fresh_valid 1 1 refl))
  made_valid false v p = subst ValidPool (sym p) (valid_pool_pool_of s (v refl))

  pub made_stored : (b a : List ℕ) (r : Stored) (t : Bool) → (t ≡ false → Valid s) → m.refusal ≡ cond t 2 0 → m.pool ≡ pool_of (cond t (fresh 1 1) s) → 1 ≤ length a
      → r ≡ stored_from m b a → r ≡ answered_in 1 b a (cond t (unstored 2 b a) (stored_as s b a))
  made_stored b a r true v n p h e = answered 1 b a r _ h (e ∙ rw n)
  made_stored b a r false v n p h e = answered 1 b a r _ h (e ∙ rw (n, p, state_of_pool_of s (v refl)))

-- ---- a fresh pool

module _ (R M : ℕ) (m : PoolAnswer) (f : Fresh R M m) where
  pub fresh_valid_pool : ValidPool m.pool
  fresh_valid_pool = made_valid (fresh R M) m (outside max_range R || outside max_limit M) (fresh_valid R M) f.pool

  pub fresh_stored : (b a : List ℕ) (r : Stored) → 1 ≤ length a → r ≡ stored_from m b a → FreshStored R M b a r
  fresh_stored b a r h e = made_stored (fresh R M) m b a r (outside max_range R || outside max_limit M) (fresh_valid R M) f.number f.pool h e

-- ---- the pool after a text

-- t tells whether the text is too long; s is the state that it leaves
abbrev replayed : Bool → State → PoolAnswer
replayed t s = cond t (record { refusal = 2; pool = pool_of (fresh 1 1) }) (record { refusal = 0; pool = pool_of s })

replayed_refusal : (t : Bool) (s : State) → (replayed t s).refusal ≡ cond t 2 0
replayed_refusal true s = refl
replayed_refusal false s = refl

replayed_pool : (t : Bool) (s : State) → (replayed t s).pool ≡ pool_of (cond t (fresh 1 1) s)
replayed_pool true s = refl
replayed_pool false s = refl

module _ (xs : List ℕ) (m : PoolAnswer) (f : m ≡ replayed (ltb max_text (length xs)) (pool_after xs)) where
  pub replay_valid_pool : ValidPool m.pool
  replay_valid_pool =
      made_valid (pool_after xs) m (ltb max_text (length xs)) (λ e. pool_after_valid xs)
      (ap (λ (p : PoolAnswer). p.pool) f ∙ replayed_pool (ltb max_text (length xs)) (pool_after xs))

  pub replay_stored : (b a : List ℕ) (r : Stored) → 1 ≤ length a → r ≡ stored_from m b a → ReplayStored xs b a r
  replay_stored b a r h e =
      made_stored (pool_after xs) m b a r (ltb max_text (length xs)) (λ e. pool_after_valid xs)
      (ap (λ (p : PoolAnswer). p.refusal) f ∙ replayed_refusal (ltb max_text (length xs)) (pool_after xs))
      (ap (λ (p : PoolAnswer). p.pool) f ∙ replayed_pool (ltb max_text (length xs)) (pool_after xs)) h e

-- ---- a transcript

module _ (xs b b' a : List ℕ) (l : 1 ≤ length a) where
  pub transcript_whole : (n : ℕ) → Transcribed xs b (Ok n) b' → (a' : List ℕ) → a' ≡ n ∷ drop 1 a
      → Transcript xs b a (record { number = 0; image = b'; answer = a' })
  transcript_whole n h a' k = answered 1 b a _ _ l (rw k (put_left (ltb (length b) room) (transcript xs) b b' a h.answer h.buffer))

  pub transcript_none : (x : Refusal) → Transcribed xs b (Err x) b' → (a' : List ℕ) → a' ≡ 0 ∷ drop 1 a
      → Transcript xs b a (record { number = number x; image = b'; answer = a' })
  transcript_none x h a' k = answered 1 b a _ _ l (rw k (put_left (ltb (length b) room) (transcript xs) b b' a h.answer h.buffer))
