-- The outcomes of the calls for C and Rust, crate `gorvyts`: the number and every buffer afterwards.
--
--   Unreadable xs n       the image xs is refused with n: 14, 15 or 16
--   Tells n places r      the number n, and the places of the answer
-- any call on an image: unread (14, 15, 16), read; an answer of one number: tells
-- gorvyts_check: check_unreadable (14, 15, 16), check_image
-- gorvyts_fresh: fresh_no_place (17), fresh_outside (2), fresh_short (17), fresh_stored
-- gorvyts_replay: replay_no_place (17), replay_long (2), replay_short (17), replay_stored
-- gorvyts_transcript: printed_no_place (17), printed_short (17), printed_long, printed_text
-- gorvyts_add, _remove, _resize: change_no_places (17), change_unreadable (14, 15, 16), change_stops (2, 4 to 9), change_short (17), change_stored
-- gorvyts_owner: owner_no_place (17), owner_unreadable (14, 15, 16), owner_outside (13), owner_none (10), owner_told_lem
-- gorvyts_copies: copies_no_tally (17), copies_no_row (17), copies_unreadable (14, 15, 16), copies_outside (11), copies_none (10), copies_few (12),
-- copies_found
-- gorvyts_copies_of_many: many_no_tally (17), many_no_rows (17), many_unreadable (14, 15, 16), many_copied; a block's row: many_row,
-- row_refused (10, 11, 12), row_found, row_length
-- gorvyts_open: open_no_starts, open_no_owners, open_no_numbers (17), open_unreadable (14, 15, 16), open_image
-- gorvyts_owner_in, on arrays of any contents: owner_in_no_place (17), owner_in_outside (13), owner_in_none (10), owner_in_told
-- gorvyts_copies_in, on arrays of any contents: copies_in_no_tally, copies_in_no_row (17), copies_in_outside (11), copies_in_none (10),
-- copies_in_few (12), copies_in_found
-- after an accepted opening the lookups answer as those on its image: opened_image, opened_owner, opened_copies
use mathlib.Core.Path.{◌≡◌, refl, sym, ap, ◌∙◌}
use mathlib.Core.Bool.{Bool, true, false, false≢true, true≢false}
use mathlib.Core.List.{List, [], ◌∷◌, ◌++◌}
use Prim.Native.Nat.{ℕ, zero, suc, ◌+◌, ◌*◌, ◌-◌, ◌/◌, ◌≤◌, ◌<◌, min}
use native.Mathlib.Omega.{arith}
use lib.Dec.{ltb}
use lib.ListN.{length, take, drop, replicate, length-append}
use lib.Seq.{take-append_seam, take_at, drop-append-add}
use borrow.Author.Tests.{lt-ltb, le-ltb, ltb-true, ltb-false, le-leb, lt-leb, eq-eqb, ne_eqb}
use Rattle.slicing.specs.Changes.{State, fresh, Change}
use Rattle.slicing.specs.Devices.{Device}
use Rattle.slicing.specs.Runs.{Run, owner_at}
use Rattle.slicing.specs.SixSteps.{Move, points}
use Rattle.slicing_core.specs.Rows.{at}
use Rattle.pools.specs.Pools.{starts_of, owners_of}
use Rattle.flat_moves.specs.FlatMoves.{moves_in, flat}
use Rattle.lookup_core.specs.Halving.{owner_found}
use Rattle.lookup_core.specs.Probes.{point_of, choose}
use Rattle.lookup_core.proofs.Choosing.{firsts}
use Rattle.lookups.specs.Copies.{copies_of}
use Rattle.lookups.specs.Promises.{owner_answer}
use Rattle.lookups.specs.declared.Counters.{Counters}
use Rattle.image_numbers.specs.Format.{image_of, version_in, state_in, marked, Sound, Image}
use Rattle.image_numbers.proofs.ImageSizes.{length_image_of}
use Rattle.history.specs.Histories.{pool_after}
use Rattle.history.specs.Replay.{replayed, transcript}
use Rattle.images.specs.OnImages.{OnImage, unmarked, versioned, faulty, accepted}
use Rattle.answers.specs.Answers.{Answer}
use Rattle.image_changes.specs.Promises.{Moved, Changed}
use Rattle.lookup_numbers.specs.Told.{owner_told, row_of, counters_in, tally_of}
use Rattle.image_lookups.specs.Promises.{Owned, CopiesLeft, outcome_of, copied_by, CopiedOne, counted_by, rows_for, counted_for, CopiedMany}
use Rattle.opened_lookups.specs.Promises.{OpenedMemory, OpenedFrom, OwnedIn, CopiedOneIn}
use Rattle.image_making.specs.Promises.{Checked, Stored, FreshStored, ReplayStored, Transcript}
use Rattle.opened_lookups.proofs.OpenedLookups as Opened
use Rattle.guarantees.proofs.ChangeRules.{Stops, add_two, remove_two, resize_two, add_four, remove_five, resize_five, remove_seven, add_six, eight, nine, Passes, stops, passes}
use Rattle.guarantees.proofs.Conditions.{Inside, two_inside, two_outside}
use Rattle.guarantees.proofs.CopyRules.{NoCopies, eleven, ten, twelve, HasCopies, no_copies, has_copies, no_copies_number, length_owners}
use Rattle.guarantees.proofs.Histories.{too_long_bytes}
use Rattle.guarantees.proofs.Images.{Mark, marked_short, marked_other, marked_mark}
use Rattle.guarantees.proofs.Lookups.{halved_in}

-- ---- images

pub data Unreadable (xs : List ℕ) : ℕ → Type 0 where
  few_bytes : length xs < 19 → Unreadable xs 14
  other_mark : 19 ≤ length xs → (Mark xs → ⊥) → Unreadable xs 14
  other_version : 19 ≤ length xs → Mark xs → (version_in xs ≡ 2 → ⊥) → Unreadable xs 15
  other_fault : 19 ≤ length xs → Mark xs → version_in xs ≡ 2 → (Sound xs → ⊥) → Unreadable xs 16

module _ {A : Type 0} {xs : List ℕ} {f : ℕ → A} {g : State → A} {r : A} where
  fourteen : OnImage xs f g r → marked xs ≡ false → r ≡ f 14
  fourteen (unmarked h e) m = e
  fourteen (versioned h v e) m = absurd (false≢true (sym m ∙ h))
  fourteen (faulty h v s e) m = absurd (false≢true (sym m ∙ h))
  fourteen (accepted i e) m = absurd (false≢true (sym m ∙ i.first))

  fifteen : OnImage xs f g r → marked xs ≡ true → (version_in xs ≡ 2 → ⊥) → r ≡ f 15
  fifteen (unmarked h e) m v = absurd (true≢false (sym m ∙ h))
  fifteen (versioned h w e) m v = e
  fifteen (faulty h w s e) m v = absurd (v w)
  fifteen (accepted i e) m v = absurd (v i.second)

  sixteen : OnImage xs f g r → marked xs ≡ true → version_in xs ≡ 2 → (Sound xs → ⊥) → r ≡ f 16
  sixteen (unmarked h e) m v n = absurd (true≢false (sym m ∙ h))
  sixteen (versioned h w e) m v n = absurd (w v)
  sixteen (faulty h w s e) m v n = e
  sixteen (accepted i e) m v n = absurd (n i.sound)

  pub unread : {n : ℕ} → OnImage xs f g r → Unreadable xs n → r ≡ f n
  unread k (few_bytes h) = fourteen k (marked_short xs h)
  unread k (other_mark l h) = fourteen k (marked_other xs l h)
  unread k (other_version l m h) = fifteen k (marked_mark xs l m) h
  unread k (other_fault l m v h) = sixteen k (marked_mark xs l m) v h

  pub read : OnImage xs f g r → Image xs → r ≡ g (state_in xs)
  read (unmarked h e) i = absurd (true≢false (sym i.first ∙ h))
  read (versioned h w e) i = absurd (w i.second)
  read (faulty h w n e) i = absurd (n i.sound)
  read (accepted j e) i = e

-- ---- gorvyts_check

module _ (xs : List ℕ) (r : ℕ) (k : Checked xs r) where
  pub check_unreadable : (n : ℕ) → Unreadable xs n → r ≡ n
  check_unreadable n h = unread k h

  pub check_image : Image xs → r ≡ 0
  check_image i = read k i

-- ---- calls that make a pool: b the buffer for the image, a the places of the answer

abbrev pub Stores : ℕ → List ℕ → List ℕ → Stored → Type 0
Stores n image answer r = (r.number ≡ n) × (r.image ≡ image) × (r.answer ≡ answer)

stores : {n : ℕ} {image answer : List ℕ} {r : Stored} → r ≡ record { number = n; image = image; answer = answer } → Stores n image answer r
stores e = (ap (λ s. s.number) e, ap (λ s. s.image) e, ap (λ s. s.answer) e)

module _ (R M : ℕ) (b a : List ℕ) (r : Stored) (k : FreshStored R M b a r) where
  -- no place for the answer: everything as lent
  pub fresh_no_place : length a < 1 → Stores 17 b a r
  fresh_no_place h = stores (k ∙ rw (lt-ltb (length a) 1 h))

  module _ (l : 1 ≤ length a) where
    pub fresh_outside : (Inside 4294967296 R → Inside 4096 M → ⊥) → Stores 2 b (0 ∷ drop 1 a) r
    fresh_outside h = stores (k ∙ rw (le-ltb (length a) 1 l, two_outside 4294967296 R 4096 M h))

    module _ (i : Inside 4294967296 R) (j : Inside 4096 M) where
      -- an image without devices has 19 bytes
      pub fresh_short : length b < 19 → Stores 17 b (0 ∷ drop 1 a) r
      fresh_short h =
          stores (k ∙ rw (le-ltb (length a) 1 l, two_inside 4294967296 R 4096 M i j, length_image_of (fresh R M), lt-ltb (length b) 19 h))

      pub fresh_stored : 19 ≤ length b → Stores 0 (image_of (fresh R M) ++ drop 19 b) (19 ∷ drop 1 a) r
      fresh_stored h =
          stores (k ∙ rw (le-ltb (length a) 1 l, two_inside 4294967296 R 4096 M i j, length_image_of (fresh R M), le-ltb (length b) 19 h))

module _ (xs b a : List ℕ) (r : Stored) (k : ReplayStored xs b a r) where
  pub replay_no_place : length a < 1 → Stores 17 b a r
  replay_no_place h = stores (k ∙ rw (lt-ltb (length a) 1 h))

  module _ (l : 1 ≤ length a) where
    pub replay_long : 65536 < length xs → Stores 2 b (0 ∷ drop 1 a) r
    replay_long h = stores (k ∙ rw (le-ltb (length a) 1 l, lt-ltb 65536 (length xs) h))

    module _ (m : length xs ≤ 65536) where
      pub replay_short : length b < length (image_of (pool_after xs)) → Stores 17 b (0 ∷ drop 1 a) r
      replay_short h =
          stores (k ∙ rw (le-ltb (length a) 1 l, le-ltb 65536 (length xs) m, lt-ltb (length b) (length (image_of (pool_after xs))) h))

      pub replay_stored : length (image_of (pool_after xs)) ≤ length b
          → Stores 0 (image_of (pool_after xs) ++ drop (length (image_of (pool_after xs))) b) (length (image_of (pool_after xs)) ∷ drop 1 a) r
      replay_stored h =
          stores (k ∙ rw (le-ltb (length a) 1 l, le-ltb 65536 (length xs) m, le-ltb (length b) (length (image_of (pool_after xs))) h))

module _ (xs b a : List ℕ) (r : Stored) (k : Transcript xs b a r) where
  pub printed_no_place : length a < 1 → Stores 17 b a r
  printed_no_place h = stores (k ∙ rw (lt-ltb (length a) 1 h))

  module _ (l : 1 ≤ length a) where
    pub printed_short : length b < 3145728 → Stores 17 b (0 ∷ drop 1 a) r
    printed_short h = stores (k ∙ rw (le-ltb (length a) 1 l, lt-ltb (length b) 3145728 h))

    module _ (m : 3145728 ≤ length b) where
      pub printed_long : 65536 < length xs → Stores 0 (too_long_bytes ++ drop 9 b) (9 ∷ drop 1 a) r
      unfolding transcript
      printed_long h = stores (k ∙ rw (le-ltb (length a) 1 l, le-ltb (length b) 3145728 m, lt-ltb 65536 (length xs) h))

      pub printed_text : length xs ≤ 65536
          → Stores 0 (replayed xs ++ drop (length (replayed xs)) b) (length (replayed xs) ∷ drop 1 a) r
      unfolding transcript
      printed_text h = stores (k ∙ rw (le-ltb (length a) 1 l, le-ltb (length b) 3145728 m, le-ltb 65536 (length xs) h))

-- ---- changes: b the buffer for the new image, l the list of moves, a the places of the answer

abbrev pub Moves : ℕ → List ℕ → List ℕ → List ℕ → Moved → Type 0
Moves n image list answer r = (r.number ≡ n) × (r.image ≡ image) × (r.list ≡ list) × (r.answer ≡ answer)

moves_as : {n : ℕ} {image list answer : List ℕ} {r : Moved} → r ≡ record { number = n; image = image; list = list; answer = answer }
    → Moves n image list answer r
moves_as e = (ap (λ s. s.number) e, ap (λ s. s.image) e, ap (λ s. s.list) e, ap (λ s. s.answer) e)

-- a state with other devices and another table
abbrev pub state_with : State → List Device → List (Run ℕ) → State
state_with s es table = record { range = s.range; limit = s.limit; devices = es; table = table }

positive : {s : State} {m : List Move} {k : Change} {n : ℕ} → Stops s m k n → 0 < n
positive (add_two h) = omega arith
positive (remove_two h) = omega arith
positive (resize_two h) = omega arith
positive (add_four i j h) = omega arith
positive (remove_five i h) = omega arith
positive (resize_five i j h) = omega arith
positive (remove_seven i h l) = omega arith
positive (add_six i j h l) = omega arith
positive (eight h l) = omega arith
positive (nine h l m) = omega arith

module _ (xs : List ℕ) (c : Change) (b l a : List ℕ) (r : Moved) (k : Changed xs c b l a r) where
  -- fewer than three places for the answer: everything as lent
  pub change_no_places : length a < 3 → Moves 17 b l a r
  change_no_places h = moves_as (k.short h)

  module _ (m : 3 ≤ length a) where
    pub change_unreadable : (n : ℕ) → Unreadable xs n → Moves n b l (0 ∷ 0 ∷ 0 ∷ drop 3 a) r
    change_unreadable n h = moves_as (unread (k.room m) h)

    module _ (i : Image xs) where
      pub change_stops : (n : ℕ) → Stops (state_in xs) (moves_in l) c n → Moves n b l (0 ∷ 0 ∷ 0 ∷ drop 3 a) r
      change_stops n h = moves_as (read (k.room m) i ∙ rw (stops (state_in xs) (moves_in l) h, lt-ltb 0 n (positive h)))

      module _ (es : List Device) (table : List (Run ℕ)) (ms : List Move) (h : Passes (state_in xs) (moves_in l) c es table ms) where
        abbrev next : List ℕ
        next = image_of (state_with (state_in xs) es table)

        -- the new image does not fit: buffer and list stay
        pub change_short : length b < length next → Moves 17 b l (0 ∷ 0 ∷ 0 ∷ drop 3 a) r
        change_short n = moves_as (read (k.room m) i ∙ rw (passes (state_in xs) (moves_in l) h, lt-ltb (length b) (length next) n))

        pub change_stored : length next ≤ length b
            → Moves 0 (next ++ drop (length next) b) (flat ms ++ drop (4 * length ms) l) (length next ∷ points ms ∷ length ms ∷ drop 3 a) r
        change_stored n =
            moves_as (read (k.room m) i ∙ rw (
              passes (state_in xs) (moves_in l) h,
              le-ltb (length b) (length next) n,
              take-append_seam ms (drop (length ms) (moves_in l)),
            ))

-- ---- gorvyts_owner: a the places of the answer

abbrev pub Tells : ℕ → List ℕ → Answer → Type 0
Tells n places r = (r.number ≡ n) × (r.places ≡ places)

pub tells : {n : ℕ} {places : List ℕ} {r : Answer} → r ≡ record { number = n; places = places } → Tells n places r
tells e = (ap (λ s. s.number) e, ap (λ s. s.places) e)

-- range R, n devices, and d the owner of the point x if there is one
module _ (R n x d : ℕ) (a : List ℕ) (r : Answer) (e : r ≡ owner_told a (owner_answer R n x d)) where
  tells_outside : R ≤ x → Tells 13 (0 ∷ drop 1 a) r
  tells_outside h = tells (e ∙ rw (le-leb R x h))

  tells_none : x < R → n ≡ 0 → Tells 10 (0 ∷ drop 1 a) r
  tells_none m h = tells (e ∙ rw (lt-leb R x m, eq-eqb n 0 h))

  tells_owner : x < R → 1 ≤ n → Tells 0 (d ∷ drop 1 a) r
  tells_owner m h = tells (e ∙ rw (lt-leb R x m, ne_eqb n 0 (λ z. omega (arith, z, h))))

module _ (xs : List ℕ) (x : ℕ) (a : List ℕ) (r : Answer) (k : Owned xs x a r) where
  pub owner_no_place : length a < 1 → Tells 17 a r
  owner_no_place h = tells (k.short h)

  module _ (l : 1 ≤ length a) where
    pub owner_unreadable : (n : ℕ) → Unreadable xs n → Tells n (0 ∷ drop 1 a) r
    owner_unreadable n h = tells (unread (k.room l) h)

    module _ (i : Image xs) where
      abbrev owner : ℕ
      owner = owner_at (state_in xs).table x

      pub owner_outside : (state_in xs).range ≤ x → Tells 13 (0 ∷ drop 1 a) r
      owner_outside = tells_outside (state_in xs).range (length (state_in xs).devices) x owner a r (read (k.room l) i)

      module _ (m : x < (state_in xs).range) where
        pub owner_none : length (state_in xs).devices ≡ 0 → Tells 10 (0 ∷ drop 1 a) r
        owner_none = tells_none (state_in xs).range (length (state_in xs).devices) x owner a r (read (k.room l) i) m

        pub owner_told_lem : 1 ≤ length (state_in xs).devices → Tells 0 (owner_at (state_in xs).table x ∷ drop 1 a) r
        owner_told_lem = tells_owner (state_in xs).range (length (state_in xs).devices) x owner a r (read (k.room l) i) m

-- ---- copies: t the tally, w the rows of the answer

abbrev pub Copies : ℕ → List ℕ → List ℕ → CopiesLeft → Type 0
Copies n tally rows r = (r.number ≡ n) × (r.tally ≡ tally) × (r.rows ≡ rows)

copies_as : {n : ℕ} {tally rows : List ℕ} {r : CopiesLeft} → r ≡ record { number = n; tally = tally; rows = rows } → Copies n tally rows r
copies_as e = (ap (λ s. s.number) e, ap (λ s. s.tally) e, ap (λ s. s.rows) e)

-- who owns the point of each probe
abbrev pub owners_in : List ℕ → ℕ → ℕ → ℕ
owners_in xs block t = owner_at (state_in xs).table (point_of block t (state_in xs).range)

-- the row of a refused lookup, and of an accepted one
abbrev pub refused_row : ℕ → ℕ → List ℕ
refused_row n probes = n ∷ 0 ∷ 0 ∷ 0 ∷ 0 ∷ 0 ∷ 0 ∷ 0 ∷ 0 ∷ probes ∷ []

abbrev pub found_row : (ℕ → ℕ) → ℕ → List ℕ
found_row o k = 0 ∷ (take k (firsts o 256) ++ replicate (8 - k) 0) ++ (choose o k).probes ∷ []

-- the tally after an accepted lookup
abbrev pub counted_tally : List ℕ → ℕ → List ℕ
counted_tally t probes = min (at t 0 + 1) 4294967295 ∷ min (at t 1 + probes) 4294967295 ∷ drop 2 t

tally_same : (t : List ℕ) → 2 ≤ length t → at t 0 ∷ at t 1 ∷ drop 2 t ≡ t
tally_same [] h = absurd (omega (arith, h))
tally_same (x ∷ []) h = absurd (omega (arith, h))
tally_same (x ∷ y ∷ t) h = refl

-- n devices, and o t the owner of probe t
module _ (o : ℕ → ℕ) (n k : ℕ) (t w : List ℕ) (r : CopiesLeft) (e : r ≡ copied_by t w (copies_of o n k)) where
  copies_refused : 2 ≤ length t → {x p : ℕ} → NoCopies o n k x p → Copies x t (refused_row x p ++ drop 10 w) r
  copies_refused l {x} {p} h = copies_as (e ∙ rw (no_copies o n k h, ne_eqb x 0 (no_copies_number h), tally_same t l))

  copies_chosen : HasCopies o n k → Copies 0 (counted_tally t (choose o k).probes) (found_row o k ++ drop 10 w) r
  copies_chosen h = copies_as (e ∙ rw (has_copies o n k h))

module _ (xs : List ℕ) (block k : ℕ) (t w : List ℕ) (r : CopiesLeft) (c : CopiedOne xs block k t w r) where
  pub copies_no_tally : length t < 2 → Copies 17 t w r
  copies_no_tally h = copies_as (c.no_tally h)

  pub copies_no_row : length w < 10 → Copies 17 t w r
  copies_no_row h = copies_as (c.no_row h)

  module _ (l : 2 ≤ length t) (m : 10 ≤ length w) where
    pub copies_unreadable : (n : ℕ) → Unreadable xs n → Copies n t (refused_row n 0 ++ drop 10 w) r
    copies_unreadable n h = copies_as (unread (c.room l m) h)

    module _ (i : Image xs) where
      refuses : {x p : ℕ} → NoCopies (owners_in xs block) (length (state_in xs).devices) k x p → Copies x t (refused_row x p ++ drop 10 w) r
      refuses h = copies_refused (owners_in xs block) (length (state_in xs).devices) k t w r (read (c.room l m) i) l h

      pub copies_outside : (Inside 8 k → ⊥) → Copies 11 t (refused_row 11 0 ++ drop 10 w) r
      copies_outside h = refuses (eleven h)

      module _ (j : Inside 8 k) where
        pub copies_none : length (state_in xs).devices ≡ 0 → Copies 10 t (refused_row 10 0 ++ drop 10 w) r
        copies_none h = refuses (ten j h)

        module _ (some : 1 ≤ length (state_in xs).devices) where
          pub copies_few : length (firsts (owners_in xs block) 256) < k → Copies 12 t (refused_row 12 256 ++ drop 10 w) r
          copies_few h = refuses (twelve j some h)

          pub copies_found : k ≤ length (firsts (owners_in xs block) 256)
              → Copies 0 (counted_tally t (choose (owners_in xs block) k).probes) (found_row (owners_in xs block) k ++ drop 10 w) r
          copies_found h =
              copies_chosen (owners_in xs block) (length (state_in xs).devices) k t w r (read (c.room l m) i)
              (record { asked = j; some = some; enough = h })

-- ---- many blocks

module _ (xs bs : List ℕ) (k : ℕ) (t w : List ℕ) (r : CopiesLeft) (c : CopiedMany xs bs k t w r) where
  pub many_no_tally : length t < 2 → Copies 17 t w r
  many_no_tally h = copies_as (c.no_tally h)

  -- fewer than ten places for each block
  pub many_no_rows : length w / 10 < length bs → Copies 17 t w r
  many_no_rows h = copies_as (c.no_rows h)

  module _ (l : 2 ≤ length t) (m : length bs ≤ length w / 10) where
    pub many_unreadable : (n : ℕ) → Unreadable xs n → Copies n t w r
    many_unreadable n h = copies_as (unread (c.room l m) h)

    -- a row for each block, in their order, and the tally counts each accepted lookup
    pub many_copied : Image xs
        → Copies 0 (tally_of (counted_for (state_in xs) k bs (counters_in t)) t) (rows_for (state_in xs) k bs ++ drop (10 * length bs) w) r
    many_copied i = copies_as (read (c.room l m) i)

-- the row of each block, and what it does to the tally
module _ (s : State) (k block : ℕ) where
  abbrev owners : ℕ → ℕ
  owners t = owner_at s.table (point_of block t s.range)

  pub row_refused : (x p : ℕ) → NoCopies owners (length s.devices) k x p → (c : Counters)
      → (row_of (outcome_of s k block) ≡ refused_row x p) × (counted_by (outcome_of s k block) c ≡ c)
  row_refused x p h c =
      let e = no_copies owners (length s.devices) k h in
      (rw e, rw (e, ne_eqb x 0 (no_copies_number h)))

  pub row_found : HasCopies owners (length s.devices) k → (c : Counters)
      → (row_of (outcome_of s k block) ≡ found_row owners k)
      × (counted_by (outcome_of s k block) c
      ≡ record { lookups = min (c.lookups + 1) 4294967295; probes = min (c.probes + (choose owners k).probes) 4294967295 })
  row_found h c =
      let e = has_copies owners (length s.devices) k h in
      (rw e, rw e)

  pub row_length : length (row_of (outcome_of s k block)) ≡ 10
  row_length =
      omega (
        arith,
        length-append (outcome_of s k block).owners ((outcome_of s k block).probes ∷ []),
        length_owners owners (length s.devices) k,
      )

-- the ten numbers of block j
pub many_row : (s : State) (k : ℕ) (bs : List ℕ) (j : ℕ) → j < length bs → take 10 (drop (10 * j) (rows_for s k bs)) ≡ row_of (outcome_of s k (at bs j))
many_row s k [] j l = absurd (omega (arith, l))
many_row s k (b ∷ bs) zero l = take_at (row_of (outcome_of s k b)) (rows_for s k bs) 10 (row_length s k b)
many_row s k (b ∷ bs) (suc j) l =
    let e : 10 * suc j ≡ length (row_of (outcome_of s k b)) + 10 * j = omega (arith, row_length s k b) in
    rw (e, drop-append-add) (many_row s k bs j (omega (arith, l)))

-- ---- gorvyts_open: s the starts, o the owners, m the numbers

abbrev pub Opens : ℕ → List ℕ → List ℕ → List ℕ → OpenedMemory → Type 0
Opens n starts owners numbers r = (r.number ≡ n) × (r.starts ≡ starts) × (r.owners ≡ owners) × (r.numbers ≡ numbers)

opens : {n : ℕ} {starts owners numbers : List ℕ} {r : OpenedMemory} → r ≡ record { number = n; starts = starts; owners = owners; numbers = numbers }
    → Opens n starts owners numbers r
opens e = (ap (λ q. q.number) e, ap (λ q. q.starts) e, ap (λ q. q.owners) e, ap (λ q. q.numbers) e)

module _ (xs s o m : List ℕ) (r : OpenedMemory) (k : OpenedFrom xs s o m r) where
  -- too few places: everything as lent
  pub open_no_starts : length s < 4096 → Opens 17 s o m r
  open_no_starts h = opens (k.no_starts h)

  pub open_no_owners : length o < 4096 → Opens 17 s o m r
  open_no_owners h = opens (k.no_owners h)

  pub open_no_numbers : length m < 3 → Opens 17 s o m r
  open_no_numbers h = opens (k.no_numbers h)

  module _ (l : 4096 ≤ length s) (i : 4096 ≤ length o) (j : 3 ≤ length m) where
    -- the arrays stay
    pub open_unreadable : (n : ℕ) → Unreadable xs n → Opens n s o (0 ∷ 0 ∷ 0 ∷ drop 3 m) r
    open_unreadable n h = opens (unread (k.room l i j) h)

    -- the starts and the owners of the intervals, then zeros up to place 4,096
    pub open_image : Image xs
        → let rs = (state_in xs).table in
        Opens 0 ((starts_of 0 rs ++ replicate (4096 - length (starts_of 0 rs)) 0) ++ drop 4096 s)
        ((owners_of rs ++ replicate (4096 - length (owners_of rs)) 0) ++ drop 4096 o)
        ((state_in xs).range ∷ length rs ∷ length (state_in xs).devices ∷ drop 3 m) r
    open_image h = opens (read (k.room l i j) h)

-- ---- gorvyts_owner_in: arrays s and o and numbers m of any contents

module _ (s o m : List ℕ) (x : ℕ) (a : List ℕ) (r : Answer) (k : OwnedIn s o m x a r) where
  pub owner_in_no_place : length a < 1 → Tells 17 a r
  owner_in_no_place h = tells (k.short h)

  module _ (l : 1 ≤ length a) where
    abbrev found : ℕ
    found = owner_found s o (min (at m 1) 4096) x

    pub owner_in_outside : at m 0 ≤ x → Tells 13 (0 ∷ drop 1 a) r
    owner_in_outside = tells_outside (at m 0) (at m 2) x found a r (k.room l)

    module _ (j : x < at m 0) where
      pub owner_in_none : at m 2 ≡ 0 → Tells 10 (0 ∷ drop 1 a) r
      owner_in_none = tells_none (at m 0) (at m 2) x found a r (k.room l) j

      pub owner_in_told : 1 ≤ at m 2 → Tells 0 (owner_found s o (min (at m 1) 4096) x ∷ drop 1 a) r
      owner_in_told = tells_owner (at m 0) (at m 2) x found a r (k.room l) j

-- ---- gorvyts_copies_in: arrays s and o and numbers m of any contents

module _ (s o m : List ℕ) (block k : ℕ) (t w : List ℕ) (r : CopiesLeft) (c : CopiedOneIn s o m block k t w r) where
  abbrev probed : ℕ → ℕ
  probed = halved_in s o (at m 1) (at m 0) block

  pub copies_in_no_tally : length t < 2 → Copies 17 t w r
  copies_in_no_tally h = copies_as (c.no_tally h)

  pub copies_in_no_row : length w < 10 → Copies 17 t w r
  copies_in_no_row h = copies_as (c.no_row h)

  module _ (l : 2 ≤ length t) (j : 10 ≤ length w) where
    pub copies_in_outside : (Inside 8 k → ⊥) → Copies 11 t (refused_row 11 0 ++ drop 10 w) r
    copies_in_outside h = copies_refused probed (at m 2) k t w r (c.room l j) l (eleven h)

    module _ (i : Inside 8 k) where
      pub copies_in_none : at m 2 ≡ 0 → Copies 10 t (refused_row 10 0 ++ drop 10 w) r
      copies_in_none h = copies_refused probed (at m 2) k t w r (c.room l j) l (ten i h)

      module _ (some : 1 ≤ at m 2) where
        pub copies_in_few : length (firsts probed 256) < k → Copies 12 t (refused_row 12 256 ++ drop 10 w) r
        copies_in_few h = copies_refused probed (at m 2) k t w r (c.room l j) l (twelve i some h)

        pub copies_in_found : k ≤ length (firsts probed 256)
            → Copies 0 (counted_tally t (choose probed k).probes) (found_row probed k ++ drop 10 w) r
        copies_in_found h =
            copies_chosen probed (at m 2) k t w r (c.room l j) (record { asked = i; some = some; enough = h })

-- ---- after an accepted opening

one_told : {xs : List ℕ} {x : ℕ} {a : List ℕ} {q q' : Answer} → Image xs → Owned xs x a q → Owned xs x a q' → q ≡ q'
one_told {xs} {x} {a} {q} {q'} i h h' = go (ltb (length a) 1) refl
  where
    go : (b : Bool) → ltb (length a) 1 ≡ b → q ≡ q'
    go true e = let l = ltb-true (length a) 1 e in h.short l ∙ sym (h'.short l)
    go false e = let l = ltb-false (length a) 1 e in read (h.room l) i ∙ sym (read (h'.room l) i)

one_copied : {xs : List ℕ} {block k : ℕ} {t w : List ℕ} {q q' : CopiesLeft} → Image xs → CopiedOne xs block k t w q → CopiedOne xs block k t w q' → q ≡ q'
one_copied {xs} {block} {k} {t} {w} {q} {q'} i h h' = go (ltb (length t) 2) (ltb (length w) 10) refl refl
  where
    go : (b c : Bool) → ltb (length t) 2 ≡ b → ltb (length w) 10 ≡ c → q ≡ q'
    go true c e f = let l = ltb-true (length t) 2 e in h.no_tally l ∙ sym (h'.no_tally l)
    go false true e f = let l = ltb-true (length w) 10 f in h.no_row l ∙ sym (h'.no_row l)
    go false false e f =
        let l = ltb-false (length t) 2 e in
        let j = ltb-false (length w) 10 f in
        read (h.room l j) i ∙ sym (read (h'.room l j) i)

-- a lookup sees the first 4,096 places of the arrays and the three numbers; q' is what the call on the image leaves
module _ (xs s o m : List ℕ) (r : OpenedMemory) (h : OpenedFrom xs s o m r) (z : r.number ≡ 0) where
  pub opened_image : Image xs
  opened_image = Opened.opened_image xs s o m r h z

  pub opened_owner : (x : ℕ) (a : List ℕ) (q q' : Answer)
      → OwnedIn (take 4096 r.starts) (take 4096 r.owners) (take 3 r.numbers) x a q → Owned xs x a q' → q ≡ q'
  opened_owner x a q q' k = one_told opened_image (Opened.opened_owned xs s o m r h z x a q k)

  pub opened_copies : (block k : ℕ) (t w : List ℕ) (q q' : CopiesLeft)
      → CopiedOneIn (take 4096 r.starts) (take 4096 r.owners) (take 3 r.numbers) block k t w q → CopiedOne xs block k t w q' → q ≡ q'
  opened_copies block k t w q q' c = one_copied opened_image (Opened.opened_copied xs s o m r h z block k t w q c)
