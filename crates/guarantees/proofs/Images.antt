-- The outcomes of `images::read` and `write`.
--
-- read: read_short (14, under 19 bytes), read_unmarked (14, another mark), read_versioned (15), read_version_one (15), read_faulty (16),
--   read_capacity (16, a capacity outside its limits: capacity_faulty), read_shares (16, other points than a share: shares_faulty), read_image
-- write: write_invalid (2), write_short (17), write_room
use mathlib.Core.Path.{◌≡◌, sym, ap, ◌∙◌}
use mathlib.Core.Bool.{true, false, false≢true, true≢false}
use mathlib.Core.List.{List, ◌++◌}
use Prim.Native.Nat.{ℕ, zero, suc, ◌+◌, ◌*◌, ◌≤◌, ◌<◌}
use native.Mathlib.Omega.{arith}
use lib.ListN.{length, drop}
use borrow.Author.Tests.{lt-ltb, le-ltb, le-leb, lt-leb, eq-eqb, ne_eqb}
use Rattle.slicing.specs.Runs.{owned}
use Rattle.slicing.specs.ShareRule.{share_of}
use Rattle.slicing_core.specs.Rows.{at}
use Rattle.slicing_core.proofs.DeviceRows.{within_rising}
use Rattle.slicing_core.proofs.Rows.{length_device_rows}
use Rattle.pools.specs.Pools.{state_of, pool_of, ValidPool}
use Rattle.pools.specs.declared.Pool.{Pool}
use Rattle.pools.specs.declared.PoolAnswer.{PoolAnswer}
use Rattle.image_numbers.specs.Format.{image_of, number_at, version_in, devices_in, column, ids_in, capacities_in, state_in, marked, Sound}
use Rattle.std.specs.Prelude.{Result, Ok, Err}
use Rattle.refusals.specs.Replies.{reply_of}
use Rattle.refusals.specs.declared.Refusal.{Refusal}
use Rattle.refusals.specs.declared.Refusal.TheVariants.{Outside, ShortBuffer}
use Rattle.images.specs.Promises.{refusal, ReadAs, unmarked, versioned, faulty, accepted, WrittenAs}
use Rattle.guarantees.proofs.Conditions.{Inside, Says, says}
use Rattle.guarantees.proofs.Pools.{WithoutDevices}

-- the first three bytes are RSL, 52 53 4C hexadecimal
abbrev pub Mark : List ℕ → Type 0
Mark xs = number_at xs 0 3 ≡ 0x52534c

pub marked_short : (xs : List ℕ) → length xs < 19 → marked xs ≡ false
marked_short xs h = rw (lt-leb 19 (length xs) h)

pub marked_other : (xs : List ℕ) → 19 ≤ length xs → (Mark xs → ⊥) → marked xs ≡ false
marked_other xs l h = rw (le-leb 19 (length xs) l, ne_eqb (number_at xs 0 3) 0x52534c h)

pub marked_mark : (xs : List ℕ) → 19 ≤ length xs → Mark xs → marked xs ≡ true
marked_mark xs l h = rw (le-leb 19 (length xs) l, eq-eqb (number_at xs 0 3) 0x52534c h)

at_column : (xs : List ℕ) (k j n i : ℕ) → i < n → at (column xs k j n) i ≡ number_at xs (j + 6 * i) k
at_column xs k j zero i l = absurd (omega arith)
at_column xs k j (suc n) zero l = let e : j ≡ j + 0 = omega arith in ap (λ p. number_at xs p k) e
at_column xs k j (suc n) (suc i) l =
    let e : j + 6 + 6 * i ≡ j + 6 * suc i = omega arith in
    at_column xs k (j + 6) n i (omega arith) ∙ ap (λ p. number_at xs p k) e

-- device row i begins at byte 19 + 6i, and its capacity stands in four bytes behind the id
pub capacity_faulty : (xs : List ℕ) (i : ℕ) → i < devices_in xs → (Inside 16000000 (number_at xs (21 + 6 * i) 4) → ⊥) → Sound xs → ⊥
unfolding state_in
capacity_faulty xs i l h s =
    let w = within_rising (ids_in xs) (capacities_in xs) (devices_in xs) s.valid.rising i l in
    let e = at_column xs 4 21 (devices_in xs) i l in
    h (rw (← e) w.some, rw (← e) w.most)

pub shares_faulty : (xs : List ℕ) (d : ℕ) → 1 ≤ devices_in xs → (owned d (state_in xs).table ≡ share_of (state_in xs).range (state_in xs).devices d → ⊥) → Sound xs → ⊥
unfolding state_in
shares_faulty xs d l h s = h (s.valid.held (omega (arith, l, length_device_rows (ids_in xs) (capacities_in xs) 0 (devices_in xs))) d)

-- a number, and a fresh pool with R = 1 and M = 1
abbrev pub Unread : ℕ → PoolAnswer → Type 0
Unread n r = (r.refusal ≡ n) × WithoutDevices 1 1 r.pool

unread : (n : ℕ) (r : PoolAnswer) → r ≡ refusal n → Unread n r
unfolding pool_of
unread n r e = (ap (λ a. a.refusal) e, ap (λ a. a.pool) e)

module _ (xs : List ℕ) (r : PoolAnswer) where
  fourteen : ReadAs xs r → marked xs ≡ false → Unread 14 r
  fourteen (unmarked h e) m = unread 14 r e
  fourteen (versioned h v e) m = absurd (false≢true (sym m ∙ h))
  fourteen (faulty h v s e) m = absurd (false≢true (sym m ∙ h))
  fourteen (accepted i e) m = absurd (false≢true (sym m ∙ i.first))

  fifteen : ReadAs xs r → marked xs ≡ true → (version_in xs ≡ 2 → ⊥) → Unread 15 r
  fifteen (unmarked h e) m v = absurd (true≢false (sym m ∙ h))
  fifteen (versioned h w e) m v = unread 15 r e
  fifteen (faulty h w s e) m v = absurd (v w)
  fifteen (accepted i e) m v = absurd (v i.second)

  sixteen : ReadAs xs r → marked xs ≡ true → version_in xs ≡ 2 → (Sound xs → ⊥) → Unread 16 r
  sixteen (unmarked h e) m v n = absurd (true≢false (sym m ∙ h))
  sixteen (versioned h w e) m v n = absurd (w v)
  sixteen (faulty h w s e) m v n = unread 16 r e
  sixteen (accepted i e) m v n = absurd (n i.sound)

  pooled : ReadAs xs r → marked xs ≡ true → version_in xs ≡ 2 → Sound xs → (r.refusal ≡ 0) × (r.pool ≡ pool_of (state_in xs))
  pooled (unmarked h e) m v s = absurd (true≢false (sym m ∙ h))
  pooled (versioned h w e) m v s = absurd (w v)
  pooled (faulty h w n e) m v s = absurd (n s)
  pooled (accepted i e) m v s = (ap (λ a. a.refusal) e, ap (λ a. a.pool) e)

  module _ (k : ReadAs xs r) where
    pub read_short : length xs < 19 → Unread 14 r
    read_short h = fourteen k (marked_short xs h)

    module _ (l : 19 ≤ length xs) where
      pub read_unmarked : (Mark xs → ⊥) → Unread 14 r
      read_unmarked h = fourteen k (marked_other xs l h)

      module _ (m : Mark xs) where
        pub read_versioned : (version_in xs ≡ 2 → ⊥) → Unread 15 r
        read_versioned h = fifteen k (marked_mark xs l m) h

        -- 'version 1 gets 15' (Wish 4)
        pub read_version_one : version_in xs ≡ 1 → Unread 15 r
        read_version_one e = read_versioned (λ z. omega (arith, e, z))

        module _ (v : version_in xs ≡ 2) where
          -- another length than 19 + 6n + 6q, or against the rules of pool and shares
          pub read_faulty : (Sound xs → ⊥) → Unread 16 r
          read_faulty h = sixteen k (marked_mark xs l m) v h

          -- a capacity outside 1 to 16,000,000
          pub read_capacity : (i : ℕ) → i < devices_in xs → (Inside 16000000 (number_at xs (21 + 6 * i) 4) → ⊥) → Unread 16 r
          read_capacity i d h = read_faulty (capacity_faulty xs i d h)

          -- a device with other points in the table than its share, as one by the rule before Wish 4 may have
          pub read_shares : (d : ℕ) → 1 ≤ devices_in xs → (owned d (state_in xs).table ≡ share_of (state_in xs).range (state_in xs).devices d → ⊥) → Unread 16 r
          read_shares d n h = read_faulty (shares_faulty xs d n h)

          pub read_image : Sound xs → (r.refusal ≡ 0) × (r.pool ≡ pool_of (state_in xs))
          read_image h = pooled k (marked_mark xs l m) v h

module _ (p : Pool) (before : List ℕ) (r : Result ℕ Refusal) (after : List ℕ) (k : WrittenAs p before r after) where
  -- a pool that is not valid: the buffer stays
  pub write_invalid : (ValidPool p → ⊥) → (r ≡ Err Outside) × (after ≡ before) × Says (reply_of r) 2 0
  write_invalid h = ((k.invalid h).0, (k.invalid h).1, says (k.invalid_reply h))

  module _ (v : ValidPool p) where
    -- a buffer too short for the image stays
    pub write_short : length before < length (image_of (state_of p)) → (r ≡ Err ShortBuffer) × (after ≡ before) × Says (reply_of r) 17 0
    write_short h =
        let e = lt-ltb (length before) (length (image_of (state_of p))) h in
        ((k.valid v).0 ∙ rw e, (k.valid v).1 ∙ rw e, says (k.reply v ∙ rw e))

    -- the image and its length; the bytes past it stay
    pub write_room : length (image_of (state_of p)) ≤ length before
        → (r ≡ Ok (length (image_of (state_of p)))) × (after ≡ image_of (state_of p) ++ drop (length (image_of (state_of p))) before)
        × Says (reply_of r) 0 (length (image_of (state_of p)))
    write_room h =
        let e = le-ltb (length before) (length (image_of (state_of p))) h in
        ((k.valid v).0 ∙ rw e, (k.valid v).1 ∙ rw e, says (k.reply v ∙ rw e))
