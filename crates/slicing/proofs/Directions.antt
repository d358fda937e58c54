-- The moves of an accepted call go its way. specs/Directions.antt has the statement.
--
--   all_to, all_from    the moves of a call after which no other device's share has grown, or has shrunk
--   resized             the device that an accepted resize names
-- Law: directed.
use mathlib.Core.Path.{◌≡◌, refl}
use mathlib.Core.Bool.{Bool, true, false, not}
use mathlib.Core.List.{List}
use mathlib.Core.Logic.{inl, inr}
use Prim.Native.Nat.{ℕ, zero, suc, ◌≤◌, ◌<◌}
use native.Mathlib.Omega.{arith}
use lib.Dec.{eqb, leb}
use lib.ListN.{length}
use borrow.Author.Tests.{eqb-true, eqb-false, leb-true, leb-false}
use Rattle.slicing.specs.Changes.{State, Change, add, remove, resize, Outcome, stop, change}
use Rattle.slicing.specs.Claims.{move_at, written}
use Rattle.slicing.specs.Devices.{device, present, capacity_of}
use Rattle.slicing.specs.Directions.{AllTo, AllFrom, Directed}
use Rattle.slicing.specs.Ledger.{Ledger, opened, feed}
use Rattle.slicing.specs.Limits.{device_outside}
use Rattle.slicing.specs.Runs.{intervals}
use Rattle.slicing.specs.ShareRule.{share_of}
use Rattle.slicing.specs.SixSteps.{Move}
use Rattle.slicing.specs.Validity.{Valid}
use Rattle.slicing.proofs.Claims.{claim_valid}
use Rattle.slicing.proofs.Devices.{capacity_of_member}
use Rattle.slicing.proofs.ShareRule.{share_of_insert, share_of_delete, share_of_raise, share_of_lower}

module _ (s : State) (v : Valid s) (lent : List Move) (k : Change) (z : (change s lent k).number ≡ 0) where
  abbrev book : Ledger
  book = opened s.devices (intervals 0 s.table)

  abbrev ms : List Move
  ms = written (change s lent k)

  -- the shares before the call and after it
  abbrev was : ℕ → ℕ
  was = share_of s.range s.devices

  abbrev will : ℕ → ℕ
  will = share_of s.range (feed book k (change s lent k).number ms).entries

  -- a pool without devices has no move
  none : length s.devices ≡ 0 → length ms ≡ 0
  none e =
      let c = claim_valid s v lent k in
      omega (arith, c.counted, (c.first z e).1)

  some : (i : ℕ) → i < length ms → 1 ≤ length s.devices
  some i l = go (length s.devices) refl
    where
      go : (n : ℕ) → length s.devices ≡ n → 1 ≤ n
      go zero e = absurd (omega (arith, none e))
      go (suc n) e = omega arith

  all_to : (d : ℕ) → ((x : ℕ) → (x ≡ d → ⊥) → will x ≤ was x) → AllTo d ms
  all_to d h i l = go (eqb (move_at ms i).to d) refl
    where
      go : (t : Bool) → eqb (move_at ms i).to d ≡ t → (move_at ms i).to ≡ d
      go true e = eqb-true (move_at ms i).to d e
      go false e =
          absurd (omega (
            arith,
            ((claim_valid s v lent k).movement z (some i l)).grows i l,
            h (move_at ms i).to (eqb-false (move_at ms i).to d e),
          ))

  all_from : (d : ℕ) → ((x : ℕ) → (x ≡ d → ⊥) → was x ≤ will x) → AllFrom d ms
  all_from d h i l = go (eqb (move_at ms i).from d) refl
    where
      go : (t : Bool) → eqb (move_at ms i).from d ≡ t → (move_at ms i).from ≡ d
      go true e = eqb-true (move_at ms i).from d e
      go false e =
          absurd (omega (
            arith,
            ((claim_valid s v lent k).movement z (some i l)).shrinks i l,
            h (move_at ms i).from (eqb-false (move_at ms i).from d e),
          ))

resized : (s : State) (lent : List Move) (d c : ℕ) → (change s lent (resize d c)).number ≡ 0 → present d s.devices ≡ true
unfolding change
resized s lent d c z = go (device_outside d c) (present d s.devices) _ z
  where
    go : (a b : Bool) (o : Outcome) → (stop s lent a 2 (stop s lent (not b) 5 o)).number ≡ 0 → b ≡ true
    go true b o h = absurd (omega arith)
    go false true o h = refl
    go false false o h = absurd (omega arith)

pub directed : (s : State) (v : Valid s) (lent : List Move) (k : Change) → (change s lent k).number ≡ 0 → Directed k (written (change s lent k))
directed s v lent (add d c) z =
    all_to s v lent (add d c) z d (λ x n. rw z (share_of_insert s.range x d c s.devices n))
directed s v lent (remove d) z =
    all_from s v lent (remove d) z d (λ x n. rw z (share_of_delete s.range x d s.devices n))
directed s v lent (resize d c) z = go (leb (capacity_of s.devices d) c) refl
  where
    go : (t : Bool) → leb (capacity_of s.devices d) c ≡ t → Directed (resize d c) (written (change s lent (resize d c)))
    go true l =
        inl (all_to s v lent (resize d c) z d (λ x n. rw z
        (share_of_raise s.range s.devices v.rising (device d (capacity_of s.devices d)) (capacity_of_member d s.devices (resized s lent d c z)) c
        (leb-true (capacity_of s.devices d) c l) x n)))
    go false l =
        inr (all_from s v lent (resize d c) z d (λ x n. rw z
        (share_of_lower s.range s.devices v.rising (device d (capacity_of s.devices d)) (capacity_of_member d s.devices (resized s lent d c z)) c
        (omega (arith, leb-false (capacity_of s.devices d) c l)) x n)))
