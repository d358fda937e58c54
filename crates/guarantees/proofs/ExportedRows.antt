-- The outcomes of the calls for C and Rust that tell what a pool is: the number and every place afterwards.
--
-- gorvyts_numbers: numbers_few_places (17), numbers_unreadable (14, 15, 16), numbers_told
-- gorvyts_devices: devices_unreadable (14, 15, 16), devices_short (17), devices_listed
-- gorvyts_intervals: intervals_unreadable (14, 15, 16), intervals_short (17), intervals_listed
-- gorvyts_share: share_no_place (17), share_unreadable (14, 15, 16), share_outside (2), share_absent (5), share_told_lem
use mathlib.Core.Path.{◌≡◌, ◌∙◌}
use mathlib.Core.Bool.{true, false}
use mathlib.Core.List.{List, ◌∷◌, ◌++◌}
use Prim.Native.Nat.{ℕ, ◌*◌, ◌≤◌, ◌<◌}
use native.Mathlib.Omega.{arith}
use lib.ListN.{length, drop}
use borrow.Author.Tests.{lt-ltb, le-ltb}
use Rattle.slicing.specs.Changes.{State}
use Rattle.slicing.specs.Devices.{present}
use Rattle.slicing.specs.ShareRule.{share_of}
use Rattle.answers.specs.Answers.{Answer}
use Rattle.image_numbers.specs.Format.{state_in, Image}
use Rattle.image_rows.specs.Promises.{Numbered, device_numbers, interval_numbers, Listed, Shared}
use Rattle.image_rows.proofs.ThreeNumbers.{length_devices_with, length_intervals_as}
use Rattle.guarantees.proofs.Conditions.{Inside, inside_false, inside_true}
use Rattle.guarantees.proofs.Exports.{Unreadable, unread, read, Tells, tells}

-- ---- gorvyts_numbers

module _ (xs a : List ℕ) (r : Answer) (k : Numbered xs a r) where
  pub numbers_few_places : length a < 4 → Tells 17 a r
  numbers_few_places h = tells (k.short h)

  module _ (l : 4 ≤ length a) where
    pub numbers_unreadable : (n : ℕ) → Unreadable xs n → Tells n (0 ∷ 0 ∷ 0 ∷ 0 ∷ drop 4 a) r
    numbers_unreadable n h = tells (unread (k.room l) h)

    pub numbers_told : Image xs
        → Tells 0 ((state_in xs).range ∷ (state_in xs).limit ∷ length (state_in xs).devices ∷ length (state_in xs).table ∷ drop 4 a) r
    numbers_told i = tells (read (k.room l) i)

-- ---- gorvyts_devices, gorvyts_intervals: rows of three numbers

-- n rows of the state of the image
module _ (f : State → List ℕ) (xs a : List ℕ) (r : Answer) (k : Listed f xs a r) (i : Image xs) (n : ℕ) (e : length (f (state_in xs)) ≡ 3 * n) where
  rows_short : length a < 3 * n → Tells 17 a r
  rows_short h = tells (read k i ∙ rw (lt-ltb (length a) (length (f (state_in xs))) (omega arith)))

  rows_listed : 3 * n ≤ length a → Tells 0 (f (state_in xs) ++ drop (3 * n) a) r
  rows_listed h = tells (read k i ∙ rw (le-ltb (length a) (length (f (state_in xs))) (omega arith), e))

module _ (xs a : List ℕ) (r : Answer) (k : Listed device_numbers xs a r) where
  pub devices_unreadable : (n : ℕ) → Unreadable xs n → Tells n a r
  devices_unreadable n h = tells (unread k h)

  module _ (i : Image xs) where
    abbrev state : State
    state = state_in xs

    rows : length (device_numbers state) ≡ 3 * length state.devices
    rows = length_devices_with (share_of state.range state.devices) state.devices

    pub devices_short : length a < 3 * length (state_in xs).devices → Tells 17 a r
    devices_short h = rows_short device_numbers xs a r k i (length state.devices) rows h

    pub devices_listed : 3 * length (state_in xs).devices ≤ length a
        → Tells 0 (device_numbers (state_in xs) ++ drop (3 * length (state_in xs).devices) a) r
    devices_listed h = rows_listed device_numbers xs a r k i (length state.devices) rows h

module _ (xs a : List ℕ) (r : Answer) (k : Listed interval_numbers xs a r) where
  pub intervals_unreadable : (n : ℕ) → Unreadable xs n → Tells n a r
  intervals_unreadable n h = tells (unread k h)

  module _ (i : Image xs) where
    pub intervals_short : length a < 3 * length (state_in xs).table → Tells 17 a r
    intervals_short h =
        rows_short interval_numbers xs a r k i (length (state_in xs).table) (length_intervals_as 0 (state_in xs).table) h

    pub intervals_listed : 3 * length (state_in xs).table ≤ length a
        → Tells 0 (interval_numbers (state_in xs) ++ drop (3 * length (state_in xs).table) a) r
    intervals_listed h =
        rows_listed interval_numbers xs a r k i (length (state_in xs).table) (length_intervals_as 0 (state_in xs).table) h

-- ---- gorvyts_share

module _ (xs : List ℕ) (d : ℕ) (a : List ℕ) (r : Answer) (k : Shared xs d a r) where
  pub share_no_place : length a < 1 → Tells 17 a r
  share_no_place h = tells (k.short h)

  module _ (l : 1 ≤ length a) where
    pub share_unreadable : (n : ℕ) → Unreadable xs n → Tells n (0 ∷ drop 1 a) r
    share_unreadable n h = tells (unread (k.room l) h)

    module _ (i : Image xs) where
      pub share_outside : (Inside 65535 d → ⊥) → Tells 2 (0 ∷ drop 1 a) r
      share_outside h = tells (read (k.room l) i ∙ rw (inside_true 65535 d h))

      module _ (j : Inside 65535 d) where
        pub share_absent : present d (state_in xs).devices ≡ false → Tells 5 (0 ∷ drop 1 a) r
        share_absent h = tells (read (k.room l) i ∙ rw (inside_false 65535 d j, h))

        pub share_told_lem : present d (state_in xs).devices ≡ true
            → Tells 0 (share_of (state_in xs).range (state_in xs).devices d ∷ drop 1 a) r
        share_told_lem h = tells (read (k.room l) i ∙ rw (inside_false 65535 d j, h))
