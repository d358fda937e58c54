-- Changes of an opened pool, and of the pool that an image describes: what they leave, from what the calls beneath them answered.
--
-- a change: change_refused; change_room (the moves fit the list), change_valid (the pool afterwards), change_unfit, change_done
-- of an image: changed_unread (a refused read), changed_read
use mathlib.Core.Path.{◌≡◌, refl, sym, ap, ◌∙◌}
use mathlib.Core.Bool.{Bool, true, false, cond}
use mathlib.Core.List.{List, ◌∷◌, ◌++◌, map}
use Prim.Native.Nat.{ℕ, ◌*◌, ◌/◌, ◌≤◌}
use native.Mathlib.Omega.{arith}
use lib.Dec.{ltb}
use lib.ListN.{length, drop, length-map}
use borrow.Author.Tests.{lt-ltb, le-ltb}
use Rattle.std.specs.Prelude.{Result, Ok, Err}
use Rattle.refusals.specs.Replies.{number}
use Rattle.refusals.specs.declared.Refusal.{Refusal}
use Rattle.refusals.specs.declared.Refusal.TheVariants.{ShortBuffer}
use Rattle.slicing.specs.Changes.{State, Change, Outcome, change}
use Rattle.slicing.specs.Claims.{Claim, written}
use Rattle.slicing.specs.Ledger.{Ledger, opened, feed}
use Rattle.slicing.specs.Runs.{intervals}
use Rattle.slicing.specs.SixSteps.{Move, moves_from}
use Rattle.slicing.proofs.Claims.{claim_valid}
use Rattle.slicing_core.specs.Rows.{at}
use Rattle.packed_runs.specs.Words.{turns_of}
use Rattle.six_steps.proofs.Renaming.{move_as}
use Rattle.opened.specs.OpenPools.{state_in, Open}
use Rattle.opened.specs.declared.Opened.{Opened}
use Rattle.plans.specs.Plans.{Accepted, Declined}
use Rattle.plans.proofs.Planning.{number_some}
use Rattle.plans.specs.declared.Plan.{Plan}
use Rattle.pools.specs.Pools.{state_of, pool_of, ValidPool}
use Rattle.pools.specs.declared.Pool.{Pool}
use Rattle.pools.proofs.PoolLaws.{state_of_pool_of, valid_pool_pool_of}
use Rattle.image_numbers.specs.Format.{image_of}
use Rattle.images.specs.Promises.{ReadAs, answer_of, write_answer, buffer_after}
use Rattle.images.specs.declared.reader.ReadPool.{ReadPool}
use Rattle.images.proofs.OnImages.{on_image_accepted, on_image_refused}
use Rattle.flat_moves.specs.FlatMoves.{moves_in, flat}
use Rattle.image_changes.specs.Promises.{Moved, moved_as, Changed}
use Rattle.flat_moves.proofs.FlatLists.{length_moves_in}

-- ---- the answer of a write

abbrev size_of : Result ℕ Refusal → ℕ
size_of (Ok n) = n
size_of (Err e) = 0

abbrev written_as : Result ℕ Refusal → ℕ
written_as (Ok n) = 1
written_as (Err e) = 0

module _ (i b b' : List ℕ) where
  fits : (u : Bool) {n : ℕ} → Ok n ≡ cond u (Err ShortBuffer) (Ok (length i)) → b' ≡ cond u b (i ++ drop (length i) b)
      → (u ≡ false) × (n ≡ length i) × (b' ≡ i ++ drop (length i) b)
  fits true w e = let z : ◌≡◌ {A = ℕ} 1 0 = ap written_as w in absurd (omega (arith, z))
  fits false w e = (refl, ap size_of w, e)

  unfit : (u : Bool) {x : Refusal} → Err x ≡ cond u (Err ShortBuffer) (Ok (length i)) → b' ≡ cond u b (i ++ drop (length i) b)
      → (u ≡ true) × (b' ≡ b)
  unfit true w e = (refl, e)
  unfit false w e = let z : ◌≡◌ {A = ℕ} 0 1 = ap written_as w in absurd (omega (arith, z))

-- ---- a change of an opened pool, from its plan

module _ {before : Opened} {table : List ℕ} (v : Open before table) (k : Change) (l : List ℕ) where
  abbrev s : State
  s = state_in before table

  abbrev o : Outcome
  o = change s (moves_in l) k

  pub change_refused : {x : Refusal} → Declined (λ lent. change (state_in before table) lent k) (length l / 4) x → (b a : List ℕ) {a' : List ℕ}
      → a' ≡ 0 ∷ 0 ∷ 0 ∷ drop 3 a
      → record { number = number x; image = b; list = l; answer = a' } ≡ moved_as k b l a s
  change_refused {x} p b a f =
      let n = p.number (moves_in l) (length_moves_in l) in
      rw (lt-ltb 0 o.number (omega (arith, number_some x, n)), sym n, f)

  module _ {r : Plan} {work next : List ℕ} (p : Accepted (λ lent. change (state_in before table) lent k) (length l / 4) r work next) where
    abbrev moves : List Move
    moves = moves_from 0 (turns_of work 0 r.turns)

    moved : r.moved ≡ o.moved
    moved = p.moved (moves_in l) (length_moves_in l)

    count : r.count ≡ o.count
    count = p.count (moves_in l) (length_moves_in l)

    listed : map (move_as (at r.names)) moves ≡ written o
    listed = p.moves (moves_in l) (length_moves_in l)

    abbrev book : Ledger
    book = opened s.devices (intervals 0 s.table)

    claim : Claim s.range s.limit s book (feed book k o.number (written o)) (moves_in l) o
    claim = claim_valid s v.valid (moves_in l) k

    counted : length moves ≡ o.count
    counted = sym (length-map moves (move_as (at r.names))) ∙ ap length listed ∙ claim.counted

    pub change_room : 4 * length moves ≤ length l
    change_room = omega (arith, counted, claim.fits, length_moves_in l)

    accepted : ltb 0 o.number ≡ false
    accepted = le-ltb 0 o.number (omega (arith, p.number (moves_in l) (length_moves_in l)))

    module _ {q : Pool} (e : q ≡ pool_of (state_in r.after next)) where
      pub change_valid : ValidPool q
      change_valid = rw e (valid_pool_pool_of (state_in r.after next) p.opened.valid)

      state : state_of q ≡ o.state
      state =
          ap state_of e ∙ state_of_pool_of (state_in r.after next) p.opened.valid
          ∙ p.state (moves_in l) (length_moves_in l)

      abbrev i : List ℕ
      i = image_of (state_of q)

      module _ (b : List ℕ) {b' : List ℕ} (g : b' ≡ buffer_after (state_of q) b) (a : List ℕ) where
        pub change_unfit : {x : Refusal} → Err x ≡ write_answer (state_of q) (length b) → {a' : List ℕ} → a' ≡ 0 ∷ 0 ∷ 0 ∷ drop 3 a
            → record { number = 17; image = b'; list = l; answer = a' } ≡ moved_as k b l a s
        change_unfit {x} h d =
            let y = unfit i b b' (ltb (length b) (length i)) h g in
            let t : ltb (length b) (length (image_of o.state)) ≡ true = ap (λ y. ltb (length b) (length (image_of y))) (sym state) ∙ y.0 in
            rw (accepted, t, y.1, d)

        pub change_done : {n : ℕ} → Ok n ≡ write_answer (state_of q) (length b) → {l' a' : List ℕ}
            → l' ≡ flat (map (move_as (at r.names)) moves) ++ drop (4 * length moves) l → a' ≡ n ∷ r.moved ∷ r.count ∷ drop 3 a
            → record { number = 0; image = b'; list = l'; answer = a' } ≡ moved_as k b l a s
        change_done {n} h {l'} m d =
            let x = fits i b b' (ltb (length b) (length i)) h g in
            let t : ltb (length b) (length (image_of o.state)) ≡ false = ap (λ y. ltb (length b) (length (image_of y))) (sym state) ∙ x.0 in
            let y : l' ≡ flat (written o) ++ drop (4 * o.count) l =
            m ∙ ap (λ ms. flat ms ++ drop (4 * length moves) l) listed ∙ ap (λ j. flat (written o) ++ drop (4 * j) l) counted in
            rw (accepted, t, x.2, d, x.1, y, moved, count, state)

-- ---- of an image

module _ (xs : List ℕ) (k : Change) (b l a : List ℕ) (h : 3 ≤ length a) where
  pub changed_unread : (x : Refusal) → ReadAs xs (answer_of (Err x)) → {a' : List ℕ} → a' ≡ 0 ∷ 0 ∷ 0 ∷ drop 3 a
      → Changed xs k b l a (record { number = number x; image = b; list = l; answer = a' })
  changed_unread x m d = record {
    short = λ y. absurd (omega (arith, h, y));
    room = λ y. on_image_refused xs _ _ _ (answer_of (Err x)) m (omega (arith, number_some x)) (rw d);
  }

  pub changed_read : (made : ReadPool) → ReadAs xs (answer_of (Ok made)) → {r : Moved} {s : State} → s ≡ state_of made.pool → r ≡ moved_as k b l a s
      → Changed xs k b l a r
  changed_read made m {r} f e = record {
    short = λ y. absurd (omega (arith, h, y));
    room = λ y. on_image_accepted xs _ _ r (answer_of (Ok made)) m (omega arith) (e ∙ ap (moved_as k b l a) f);
  }
