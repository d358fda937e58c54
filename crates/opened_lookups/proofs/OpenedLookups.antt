-- Lookups on the arrays of an opened pool: what they leave, and that on what opening left they answer as the calls on the image do.
--
-- owned_in_told (the owner of a point), one_in_copied (the copies of a block)
-- on an opened pool: opened_image, opened_answer, opened_outcome, opened_owned, opened_copied
use Rattle.std.specs.Prelude.{Result}
use mathlib.Core.Path.{◌≡◌, refl, ap, ◌∙◌}
use mathlib.Core.Bool.{Bool, true, false}
use mathlib.Core.List.{List, [], ◌∷◌, ◌++◌}
use Prim.Native.Nat.{ℕ, ◌-◌, ◌≤◌, min}
use native.Mathlib.Omega.{arith}
use lib.Dec.{ltb}
use lib.ListN.{length, take, drop, replicate, length-append, length-replicate}
use lib.Seq.{take_at}
use borrow.Author.Tests.{ltb-true, ltb-false}
use Rattle.refusals.specs.declared.Refusal.{Refusal}
use Rattle.slicing.specs.Changes.{State}
use Rattle.slicing.specs.Limits.{max_range}
use Rattle.slicing.specs.Runs.{owner_at}
use Rattle.slicing.specs.Validity.{Valid}
use Rattle.slicing_core.specs.Rows.{at}
use Rattle.pools.specs.Pools.{padded, starts_of, owners_of, state_of, pool_of, ValidPool}
use Rattle.pools.specs.declared.Pool.{Pool}
use Rattle.pools.proofs.PaddedRows.{length_starts_of, length_owners_of}
use Rattle.pools.proofs.PoolLaws.{state_of_pool_of, valid_pool_pool_of}
use Rattle.lookup_core.specs.Probing.{owner_of}
use Rattle.lookups.specs.Copies.{Outcome, copies_of}
use Rattle.lookups.specs.Promises.{owner_answer, LookedIn, CopiedIn}
use Rattle.lookups.specs.declared.CopiesAnswer.{CopiesAnswer}
use Rattle.lookups.specs.declared.Counters.{Counters}
use Rattle.lookups.proofs.Replies.{looked_answer}
use Rattle.image_numbers.specs.Format.{state_in, Image}
use Rattle.images.specs.OnImages.{OnImage, unmarked, versioned, faulty, accepted}
use Rattle.answers.specs.Answers.{Answer}
use Rattle.lookup_numbers.specs.Told.{owner_told, counters_in, tally_of}
use Rattle.image_lookups.specs.Promises.{Owned, CopiesLeft, outcome_of, counted_by, copied_by, CopiedOne}
use Rattle.image_lookups.proofs.CopiedCalls.{answered_by}
use Rattle.image_lookups.proofs.CopiedRows.{answered_arrays}
use Rattle.image_lookups.proofs.ToldOwners.{found_state}
use Rattle.opened_lookups.specs.Promises.{OpenedMemory, opened_as, OpenedFrom, answer_in, OwnedIn, outcome_in, CopiedOneIn}

-- ---- the owner of a point

module _ (s o m : List ℕ) (x : ℕ) (a : List ℕ) where
  pub owned_in_told : 1 ≤ length a → (w : Result ℕ Refusal) (r : Answer) → LookedIn s o (at m 1) (at m 2) (at m 0) x w → r ≡ owner_told a w → OwnedIn s o m x a r
  owned_in_told l w r h e = record { short = λ k. absurd (omega (arith, l, k)); room = λ k. e ∙ ap (owner_told a) h.answer }

-- ---- the copies of a block

module _ (s o m : List ℕ) (block k : ℕ) (t w : List ℕ) where
  pub one_in_copied : 2 ≤ length t → 10 ≤ length w → (c : Counters) (r : CopiesAnswer) (t' w' : List ℕ) → c ≡ counters_in t
      → CopiedIn s o (at m 1) (at m 2) (at m 0) block k c r → w' ≡ r.refusal ∷ r.owners ++ r.probes ∷ drop 10 w → t' ≡ tally_of r.counters t
      → CopiedOneIn s o m block k t w (record { number = r.refusal; tally = t'; rows = w' })
  one_in_copied l j c r t' w' e a f g = record {
    no_tally = λ h. absurd (omega (arith, h, l));
    no_row = λ h. absurd (omega (arith, h, j));
    room = λ p q. answered_by (outcome_in s o m k block) t t' w w' c r a.found e f g;
  }

outcome_same : {n n' p p' : ℕ} {ds ds' : List ℕ} → n ≡ n' → ds ≡ ds' → p ≡ p'
    → ◌≡◌ {A = Outcome} (record { number = n; owners = ds; probes = p }) (record { number = n'; owners = ds'; probes = p' })
outcome_same e f g = rw (e, f, g)

-- the outcome in the arrays of a valid pool is that of its state
outcome_arrays : (p : Pool) → ValidPool p → (block k : ℕ)
    → copies_of (owner_of p.starts p.owners p.intervals (min p.range max_range) block) p.devices k ≡ outcome_of (state_of p) k block
outcome_arrays p v block k =
    let u : Outcome = copies_of (owner_of p.starts p.owners p.intervals (min p.range max_range) block) p.devices k in
    let c : Counters = record { lookups = 0; probes = 0 } in
    let r : CopiesAnswer = record { refusal = u.number; owners = u.owners; probes = u.probes; counters = counted_by u c } in
    let a = answered_arrays p v block k c r (record { found = record { number = refl; owners = refl; probes = refl; counters = refl } }) in
    outcome_same a.number a.owners a.probes

-- ---- on an opened pool

length_padded : (n : ℕ) (ys : List ℕ) → length ys ≤ n → length (padded n ys) ≡ n
length_padded n ys h = length-append ys (replicate (n - length ys) 0) ∙ omega (arith, h, length-replicate {A = ℕ} (n - length ys) 0)

-- an accepted opening had room, and its image is one
accepted_only : {xs : List ℕ} {f : ℕ → OpenedMemory} {g : State → OpenedMemory} {r : OpenedMemory} → OnImage xs f g r → ((n : ℕ) → (f n).number ≡ n) → r.number ≡ 0
    → Image xs × (r ≡ g (state_in xs))
accepted_only (unmarked h e) k z = absurd (omega (arith, z, ap (λ q. q.number) e, k 14))
accepted_only (versioned h v e) k z = absurd (omega (arith, z, ap (λ q. q.number) e, k 15))
accepted_only (faulty h v n e) k z = absurd (omega (arith, z, ap (λ q. q.number) e, k 16))
accepted_only (accepted i e) k z = (i, e)

module _ (xs s o m : List ℕ) (r : OpenedMemory) (h : OpenedFrom xs s o m r) (z : r.number ≡ 0) where
  opened : Image xs × (r ≡ opened_as s o m (state_in xs))
  opened = go (ltb (length s) 4096) (ltb (length o) 4096) (ltb (length m) 3) refl refl refl
    where
      go : (a b c : Bool) → ltb (length s) 4096 ≡ a → ltb (length o) 4096 ≡ b → ltb (length m) 3 ≡ c → Image xs × (r ≡ opened_as s o m (state_in xs))
      go true b c e f g = absurd (omega (arith, z, ap (λ q. q.number) (h.no_starts (ltb-true (length s) 4096 e))))
      go false true c e f g = absurd (omega (arith, z, ap (λ q. q.number) (h.no_owners (ltb-true (length o) 4096 f))))
      go false false true e f g = absurd (omega (arith, z, ap (λ q. q.number) (h.no_numbers (ltb-true (length m) 3 g))))
      go false false false e f g =
          accepted_only (h.room (ltb-false (length s) 4096 e) (ltb-false (length o) 4096 f) (ltb-false (length m) 3 g)) (λ n. refl) z

  pub opened_image : Image xs
  opened_image = opened.0

  abbrev pool : Pool
  pool = pool_of (state_in xs)

  sound : Valid (state_in xs)
  sound = opened_image.sound.valid

  -- the places that a lookup sees
  starts_opened : take 4096 r.starts ≡ padded 4096 (starts_of 0 (state_in xs).table)
  starts_opened =
      let rows = starts_of 0 (state_in xs).table in
      ap (λ q. take 4096 q.starts) opened.1
      ∙ take_at (padded 4096 rows) (drop 4096 s) 4096 (length_padded 4096 rows (omega (arith, sound.fits, sound.room_most, length_starts_of 0 (state_in xs).table)))

  owners_opened : take 4096 r.owners ≡ padded 4096 (owners_of (state_in xs).table)
  owners_opened =
      let rows = owners_of (state_in xs).table in
      ap (λ q. take 4096 q.owners) opened.1
      ∙ take_at (padded 4096 rows) (drop 4096 o) 4096 (length_padded 4096 rows (omega (arith, sound.fits, sound.room_most, length_owners_of (state_in xs).table)))

  numbers_opened : take 3 r.numbers ≡ (state_in xs).range ∷ length (state_in xs).table ∷ length (state_in xs).devices ∷ []
  numbers_opened = ap (λ q. take 3 q.numbers) opened.1

  seen : (A : Type 0) (f : List ℕ → List ℕ → List ℕ → A)
      → f (take 4096 r.starts) (take 4096 r.owners) (take 3 r.numbers) ≡ f pool.starts pool.owners (pool.range ∷ pool.intervals ∷ pool.devices ∷ [])
  unfolding pool_of
  seen A f = rw (starts_opened, owners_opened, numbers_opened)

  valid : ValidPool pool
  valid = valid_pool_pool_of (state_in xs) sound

  state : state_of pool ≡ state_in xs
  state = state_of_pool_of (state_in xs) sound

  -- the rules' owner and outcome, of the image's state
  pub opened_answer : (x : ℕ)
      → answer_in (take 4096 r.starts) (take 4096 r.owners) (take 3 r.numbers) x
      ≡ owner_answer (state_in xs).range (length (state_in xs).devices) x (owner_at (state_in xs).table x)
  opened_answer x =
      seen (Result ℕ Refusal) (λ s o m. answer_in s o m x)
      ∙ found_state pool x _ valid (looked_answer refl)
      ∙ ap (λ (u : State). owner_answer u.range (length u.devices) x (owner_at u.table x)) state

  pub opened_outcome : (block k : ℕ)
      → outcome_in (take 4096 r.starts) (take 4096 r.owners) (take 3 r.numbers) k block ≡ outcome_of (state_in xs) k block
  opened_outcome block k =
      seen Outcome (λ s o m. outcome_in s o m k block) ∙ outcome_arrays pool valid block k ∙ ap (λ (u : State). outcome_of u k block) state

  -- the answers of `owner` and `copies` on the image
  pub opened_owned : (x : ℕ) (a : List ℕ) (q : Answer) → OwnedIn (take 4096 r.starts) (take 4096 r.owners) (take 3 r.numbers) x a q → Owned xs x a q
  opened_owned x a q k = record { short = k.short; room = λ l. accepted opened_image (k.room l ∙ ap (owner_told a) (opened_answer x)) }

  pub opened_copied : (block k : ℕ) (t w : List ℕ) (q : CopiesLeft)
      → CopiedOneIn (take 4096 r.starts) (take 4096 r.owners) (take 3 r.numbers) block k t w q → CopiedOne xs block k t w q
  opened_copied block k t w q c = record {
    no_tally = c.no_tally;
    no_row = c.no_row;
    room = λ l j. accepted opened_image (c.room l j ∙ ap (copied_by t w) (opened_outcome block k));
  }
