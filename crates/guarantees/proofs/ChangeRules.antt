-- Where the rules stop a change, and what they accept, by plain conditions: a line for each row of document 01's table 'Where a call stops' that
-- concerns changes, and for each kind of change.
--
--   turns_to s es             the points of the pool s given out anew to the devices es
--   Settles s k es           the change k of the pool s passes the checks up to 8, and es are the devices afterwards
--   Stops s lent k n         it is refused with n
--   Passes s lent k es ..    it is accepted: the devices, the table and the moves
-- Laws: stops, passes (the rules' outcome); change_known (every change is refused or accepted so).
use mathlib.Core.Path.{◌≡◌, refl, ◌∙◌}
use mathlib.Core.Bool.{Bool, true, false}
use mathlib.Core.List.{List, [], ◌∷◌}
use Prim.Native.Nat.{ℕ, ◌≤◌, ◌<◌}
use native.Mathlib.Omega.{arith}
use lib.Dec.{leb, ltb}
use lib.ListN.{length}
use borrow.Author.Tests.{lt-ltb, le-ltb, le-leb, lt-leb, ltb-true, ltb-false, leb-true, leb-false}
use Rattle.slicing.specs.Changes.{State, Change, add, remove, resize, refused, stop, accepted, settle, admit, change}
use Rattle.slicing.specs.Devices.{Device, device, present, insert, delete, update}
use Rattle.slicing.specs.Runs.{Run, ◌of◌}
use Rattle.slicing.specs.ShareRule.{shares}
use Rattle.slicing.specs.SixSteps.{Turn, turns, new_table, Move, moves}
use Rattle.guarantees.proofs.Conditions.{Inside, inside_false, inside_true, two_inside, two_outside, one_decided, two_decided, Decided, within, without}

abbrev pub turns_to : State → List Device → List (Run Turn)
turns_to s es = turns s.table (shares s.range s.devices) (shares s.range es)

pub data Settles (s : State) : Change → List Device → Type 0 where
  adds : {d c : ℕ} → Inside 65535 d → Inside 16000000 c → present d s.devices ≡ false → 1 ≤ length s.devices → length s.devices < 256
      → Settles s (add d c) (insert d c s.devices)
  removes : {d : ℕ} → Inside 65535 d → present d s.devices ≡ true → 1 < length s.devices → Settles s (remove d) (delete d s.devices)
  resizes : {d c : ℕ} → Inside 65535 d → Inside 16000000 c → present d s.devices ≡ true → Settles s (resize d c) (update d c s.devices)

pub data Stops (s : State) (lent : List Move) : Change → ℕ → Type 0 where
  -- a number outside its limits
  add_two : {d c : ℕ} → (Inside 65535 d → Inside 16000000 c → ⊥) → Stops s lent (add d c) 2
  remove_two : {d : ℕ} → (Inside 65535 d → ⊥) → Stops s lent (remove d) 2
  resize_two : {d c : ℕ} → (Inside 65535 d → Inside 16000000 c → ⊥) → Stops s lent (resize d c) 2
  -- id present
  add_four : {d c : ℕ} → Inside 65535 d → Inside 16000000 c → present d s.devices ≡ true → Stops s lent (add d c) 4
  -- id absent
  remove_five : {d : ℕ} → Inside 65535 d → present d s.devices ≡ false → Stops s lent (remove d) 5
  resize_five : {d c : ℕ} → Inside 65535 d → Inside 16000000 c → present d s.devices ≡ false → Stops s lent (resize d c) 5
  -- the only device
  remove_seven : {d : ℕ} → Inside 65535 d → present d s.devices ≡ true → length s.devices ≤ 1 → Stops s lent (remove d) 7
  -- 256 present
  add_six : {d c : ℕ} → Inside 65535 d → Inside 16000000 c → present d s.devices ≡ false → 256 ≤ length s.devices → Stops s lent (add d c) 6
  -- the joined new table has over M intervals
  eight : {k : Change} {es : List Device} → Settles s k es → s.limit < length (new_table (turns_to s es)) → Stops s lent k 8
  -- it has not, and there are more moves than places in the lent list
  nine : {k : Change} {es : List Device} → Settles s k es → length (new_table (turns_to s es)) ≤ s.limit → length lent < length (moves (turns_to s es))
      → Stops s lent k 9

pub data Passes (s : State) (lent : List Move) : Change → List Device → List (Run ℕ) → List Move → Type 0 where
  -- 'An add to a pool without devices gives its device the whole range, with no moves and a moved count of 0.'
  first : {d c : ℕ} → Inside 65535 d → Inside 16000000 c → length s.devices ≡ 0
      → Passes s lent (add d c) (device d c ∷ []) ((s.range of d) ∷ []) []
  settled : {k : Change} {es : List Device} → Settles s k es → length (new_table (turns_to s es)) ≤ s.limit
      → length (moves (turns_to s es)) ≤ length lent → Passes s lent k es (new_table (turns_to s es)) (moves (turns_to s es))

module _ (s : State) (lent : List Move) where
  admit_some : (d c : ℕ) (es : List Device) → 1 ≤ length es → admit shares s lent d c es ≡ settle shares s lent (insert d c es)
  admit_some d c [] h = absurd (omega arith)
  admit_some d c (e ∷ es) h = refl

  settles : {k : Change} {es : List Device} → Settles s k es → change s lent k ≡ settle shares s lent es
  unfolding change
  settles (adds {d = d} {c = c} i j h l m) =
      rw (two_inside 65535 d 16000000 c i j, h, lt-leb 256 (length s.devices) m) (admit_some d c s.devices l)
  settles (removes {d = d} i h l) = rw (inside_false 65535 d i, h, lt-leb (length s.devices) 1 l)
  settles (resizes {d = d} {c = c} i j h) = rw (two_inside 65535 d 16000000 c i j, h)

  pub stops : {k : Change} {n : ℕ} → Stops s lent k n → change s lent k ≡ refused s lent n
  unfolding change
  stops (add_two {d = d} {c = c} h) = rw (two_outside 65535 d 16000000 c h)
  stops (remove_two {d = d} h) = rw (inside_true 65535 d h)
  stops (resize_two {d = d} {c = c} h) = rw (two_outside 65535 d 16000000 c h)
  stops (add_four {d = d} {c = c} i j h) = rw (two_inside 65535 d 16000000 c i j, h)
  stops (remove_five {d = d} i h) = rw (inside_false 65535 d i, h)
  stops (resize_five {d = d} {c = c} i j h) = rw (two_inside 65535 d 16000000 c i j, h)
  stops (remove_seven {d = d} i h l) = rw (inside_false 65535 d i, h, le-leb (length s.devices) 1 l)
  stops (add_six {d = d} {c = c} i j h l) = rw (two_inside 65535 d 16000000 c i j, h, le-leb 256 (length s.devices) l)
  stops (eight {es = es} k l) = settles k ∙ rw (lt-ltb s.limit (length (new_table (turns_to s es))) l)
  stops (nine {es = es} k l m) =
      settles k ∙ rw (le-ltb s.limit (length (new_table (turns_to s es))) l, lt-ltb (length lent) (length (moves (turns_to s es))) m)

  admit_none : (d c : ℕ) (es : List Device) → length es ≡ 0
      → stop s lent (present d es) 4 (stop s lent (leb 256 (length es)) 6 (admit shares s lent d c es))
      ≡ accepted s lent (device d c ∷ []) ((s.range of d) ∷ []) []
  admit_none d c [] h = refl
  admit_none d c (e ∷ es) h = absurd (omega arith)

  pub passes : {k : Change} {es : List Device} {table : List (Run ℕ)} {ms : List Move} → Passes s lent k es table ms
      → change s lent k ≡ accepted s lent es table ms
  unfolding change
  passes (first {d = d} {c = c} i j l) = rw (two_inside 65535 d 16000000 c i j) (admit_none d c s.devices l)
  passes (settled {es = es} k l m) =
      settles k ∙ rw (le-ltb s.limit (length (new_table (turns_to s es))) l, le-ltb (length lent) (length (moves (turns_to s es))) m)

-- ---- there is no other outcome

pub data Known (s : State) (lent : List Move) (k : Change) : Type 0 where
  stopped : {n : ℕ} → Stops s lent k n → Known s lent k
  passed : {es : List Device} {table : List (Run ℕ)} {ms : List Move} → Passes s lent k es table ms → Known s lent k

module _ (s : State) (lent : List Move) where
  known_settles : (k : Change) (es : List Device) → Settles s k es → Known s lent k
  known_settles k es h = go (ltb s.limit (length (new_table (turns_to s es)))) refl (ltb (length lent) (length (moves (turns_to s es)))) refl
    where
      go : (t : Bool) → ltb s.limit (length (new_table (turns_to s es))) ≡ t → (u : Bool) → ltb (length lent) (length (moves (turns_to s es))) ≡ u
          → Known s lent k
      go true e u f = stopped (eight h (ltb-true s.limit (length (new_table (turns_to s es))) e))
      go false e true f =
          stopped (nine h (ltb-false s.limit (length (new_table (turns_to s es))) e) (ltb-true (length lent) (length (moves (turns_to s es))) f))
      go false e false f =
          passed (settled h (ltb-false s.limit (length (new_table (turns_to s es))) e) (ltb-false (length lent) (length (moves (turns_to s es))) f))

  module _ (d c : ℕ) (i : Inside 65535 d) (j : Inside 16000000 c) where
    known_add : (t : Bool) → leb (length s.devices) 0 ≡ t → (u : Bool) → present d s.devices ≡ u → (w : Bool) → leb 256 (length s.devices) ≡ w
        → Known s lent (add d c)
    known_add true e u f w g = passed (first i j (omega (arith, leb-true (length s.devices) 0 e)))
    known_add false e true f w g = stopped (add_four i j f)
    known_add false e false f true g = stopped (add_six i j f (leb-true 256 (length s.devices) g))
    known_add false e false f false g =
        known_settles (add d c) _ (adds i j f (omega (arith, leb-false (length s.devices) 0 e)) (leb-false 256 (length s.devices) g))

    known_resize : (u : Bool) → present d s.devices ≡ u → Known s lent (resize d c)
    known_resize true f = known_settles (resize d c) _ (resizes i j f)
    known_resize false f = stopped (resize_five i j f)

  known_remove : (d : ℕ) → Inside 65535 d → (u : Bool) → present d s.devices ≡ u → (w : Bool) → leb (length s.devices) 1 ≡ w
      → Known s lent (remove d)
  known_remove d i false f w g = stopped (remove_five i f)
  known_remove d i true f true g = stopped (remove_seven i f (leb-true (length s.devices) 1 g))
  known_remove d i true f false g = known_settles (remove d) _ (removes i f (leb-false (length s.devices) 1 g))

  pub change_known : (k : Change) → Known s lent k
  change_known (add d c) = go (two_decided 65535 d 16000000 c)
    where
      go : Decided (Inside 65535 d × Inside 16000000 c) → Known s lent (add d c)
      go (without h) = stopped (add_two (λ i j. h (i, j)))
      go (within h) =
          known_add d c h.0 h.1 (leb (length s.devices) 0) refl (present d s.devices) refl (leb 256 (length s.devices)) refl
  change_known (remove d) = go (one_decided 65535 d)
    where
      go : Decided (Inside 65535 d) → Known s lent (remove d)
      go (without h) = stopped (remove_two h)
      go (within h) = known_remove d h (present d s.devices) refl (leb (length s.devices) 1) refl
  change_known (resize d c) = go (two_decided 65535 d 16000000 c)
    where
      go : Decided (Inside 65535 d × Inside 16000000 c) → Known s lent (resize d c)
      go (without h) = stopped (resize_two (λ i j. h (i, j)))
      go (within h) = known_resize d c h.0 h.1 (present d s.devices) refl
