-- An exported call as a step of demand 3.
--
--   number_change      the rules refuse with 9 at most
--   moves_in_drop, map_drop, rows_after    the list of moves afterwards, in its named form
--   pool_in_image_of     the rows of a valid state's image are its pool
--   changed_step       an outcome of the rules on the image's state is what the offered change promises on the image's rows
--   refused_answer, accepted_answer       of a refused call and of an accepted one
use mathlib.Core.Path.{◌≡◌, refl, sym, ap, ap₂, ◌∙◌, subst}
use mathlib.Core.Bool.{Bool, true, false, not}
use mathlib.Core.List.{List, [], ◌∷◌, ◌++◌, map, map-append}
use Prim.Native.Nat.{ℕ, zero, suc, ◌*◌, ◌≤◌}
use native.Mathlib.Omega.{arith}
use lib.Dec.{leb, ltb}
use lib.ListN.{length, take, drop}
use Rattle.slicing.specs.Changes.{State, Change, add, remove, resize, Outcome, stop, settled_by, settle, admit, change}
use Rattle.slicing.specs.Claims.{written}
use Rattle.slicing.specs.Devices.{Device, present, insert, delete, update}
use Rattle.slicing.specs.Limits.{max_devices, max_id, outside, device_outside}
use Rattle.slicing.specs.Runs.{Run}
use Rattle.slicing.specs.ShareRule.{shares}
use Rattle.slicing.specs.SixSteps as Six
use Rattle.slicing.specs.SixSteps.{Turn, turns, new_table, moves}
use Rattle.slicing.specs.Validity.{Valid}
use Rattle.slicing.proofs.Changes.{valid_change, change_refused}
use Rattle.pools.specs.Pools.{state_of, pool_of}
use Rattle.flat_moves.specs.FlatMoves.{moves_in, flat}
use Rattle.placement.specs.declared.ChangeAnswer.{ChangeAnswer}
use Rattle.placement.specs.Promises.{move_of, row_of, Answered, Changed}
use Rattle.placement.specs.declared.Move.{Move}
use Rattle.flat_moves.proofs.FlatLists.{moves_in_flat}
use Rattle.image_numbers.specs.Format.{image_of, state_in, Image}
use Rattle.image_bytes.specs.RowBytes.{pool_in}
use Rattle.images.proofs.ImageLaws.{state_in_image_of, image_image_of}
use Rattle.images.proofs.PoolsRead.{state_of_pool_in, pool_in_valid, pool_of_state_in}
use Rattle.demand3.proofs.Demand3.{map_back}

-- ---- numbers

module _ (s : State) (lent : List Six.Move) where
  number_stop : (t : Bool) (n : ℕ) (o : Outcome) → n ≤ 9 → o.number ≤ 9 → (stop s lent t n o).number ≤ 9
  number_stop true n o l h = l
  number_stop false n o l h = h

  number_settled : (ts : List (Run Turn)) (es : List Device) → (settled_by s lent ts es).number ≤ 9
  number_settled ts es =
      number_stop (ltb s.limit (length (new_table ts))) 8 _ (omega arith)
      (number_stop (ltb (length lent) (length (moves ts))) 9 _ (omega arith) (omega arith))

  number_settle : (es : List Device) → (settle shares s lent es).number ≤ 9
  number_settle es = number_settled (turns s.table (shares s.range s.devices) (shares s.range es)) es

  number_admit : (d c : ℕ) (ds : List Device) → (admit shares s lent d c ds).number ≤ 9
  number_admit d c [] = omega arith
  number_admit d c (e ∷ ds) = number_settle (insert d c (e ∷ ds))

  pub number_change : (k : Change) → (change s lent k).number ≤ 9
  unfolding change
  number_change (add d c) =
      number_stop (device_outside d c) 2 _ (omega arith)
      (number_stop (present d s.devices) 4 _ (omega arith)
      (number_stop (leb max_devices (length s.devices)) 6 _ (omega arith) (number_admit d c s.devices)))
  number_change (remove d) =
      number_stop (outside max_id d) 2 _ (omega arith)
      (number_stop (not (present d s.devices)) 5 _ (omega arith)
      (number_stop (leb (length s.devices) 1) 7 _ (omega arith) (number_settle (delete d s.devices))))
  number_change (resize d c) =
      number_stop (device_outside d c) 2 _ (omega arith)
      (number_stop (not (present d s.devices)) 5 _ (omega arith) (number_settle (update d c s.devices)))

-- ---- lists of moves

pub moves_in_drop : (n : ℕ) (l : List ℕ) → moves_in (drop (4 * n) l) ≡ drop n (moves_in l)
moves_in_drop zero l = refl
moves_in_drop (suc n) l =
    let e : 4 * suc n ≡ suc (suc (suc (suc (4 * n)))) = omega arith in
    ap (λ (m : ℕ). moves_in (drop m l)) e ∙ go l (moves_in_drop n)
  where
    go : (l : List ℕ) → ((xs : List ℕ) → moves_in (drop (4 * n) xs) ≡ drop n (moves_in xs))
        → moves_in (drop (suc (suc (suc (suc (4 * n))))) l) ≡ drop (suc n) (moves_in l)
    go [] ih = refl
    go (a ∷ []) ih = refl
    go (a ∷ b ∷ []) ih = refl
    go (a ∷ b ∷ c ∷ []) ih = refl
    go (a ∷ b ∷ c ∷ d ∷ l) ih = ih l

map_drop : {A B : Type 0} (f : A → B) (n : ℕ) (l : List A) → map f (drop n l) ≡ drop n (map f l)
map_drop f zero l = refl
map_drop f (suc n) [] = refl
map_drop f (suc n) (x ∷ l) = map_drop f n l

rows_after : (ms : List Six.Move) (n : ℕ) (l : List ℕ)
    → map row_of (moves_in (flat ms ++ drop (4 * n) l)) ≡ map row_of ms ++ drop n (map row_of (moves_in l))
rows_after ms n l =
    ap (map row_of) (moves_in_flat ms (drop (4 * n) l)) ∙ map-append row_of ms (moves_in (drop (4 * n) l))
    ∙ ap (λ (ns : List Move). map row_of ms ++ ns) (ap (map row_of) (moves_in_drop n l) ∙ map_drop row_of n (moves_in l))

-- ---- images

pub pool_in_image_of : (s : State) → Valid s → pool_in (image_of s) ≡ pool_of s
pool_in_image_of s v = sym (pool_of_state_in (image_of s) (image_image_of s v).sound.valid) ∙ ap pool_of (state_in_image_of s v)

-- ---- steps

module _ (xs : List ℕ) (i : Image xs) (k : Change) (l : List ℕ) where
  abbrev o : Outcome
  o = change (state_in xs) (moves_in l) k

  abbrev lent : List Move
  lent = map row_of (moves_in l)

  pub same_outcome : change (state_of (pool_in xs)) (map move_of lent) k ≡ o
  same_outcome = ap₂ (λ (s : State) (ms : List Six.Move). change s ms k) (state_of_pool_in xs) (map_back (moves_in l))

  pub changed_step : (r : ChangeAnswer) (after : List Move) → Answered lent o (pool_of o.state) r after → Changed (pool_in xs) lent k r after
  changed_step r after a = record {
    valid = λ v. subst (λ (u : Outcome). Answered lent u (pool_of u.state) r after) (sym same_outcome) a;
    invalid = λ n. absurd (n (pool_in_valid xs i.sound.valid));
  }

  -- ys is the image for the next call
  pub refused_answer : (ys : List ℕ) → ys ≡ xs → 1 ≤ o.number
      → Answered lent o (pool_of o.state) (record { refusal = o.number; moved = 0; count = 0; pool = pool_in ys }) lent
  refused_answer ys e n =
      let u = change_refused (state_in xs) (moves_in l) k n in
      record {
        number = refl;
        moved = sym u.moved;
        count = sym u.count;
        pool = ap pool_in e ∙ sym (ap pool_of u.state ∙ pool_of_state_in xs i.sound.valid);
        list = sym (ap (λ (m : ℕ). map row_of (take m o.list) ++ drop m lent) u.count);
      }

  pub outcome_valid : Valid o.state
  outcome_valid = valid_change (state_in xs) i.sound.valid (moves_in l) k

  pub accepted_answer : (ys : List ℕ) → ys ≡ image_of o.state → o.number ≡ 0
      → Answered lent o (pool_of o.state) (record { refusal = 0; moved = o.moved; count = o.count; pool = pool_in ys })
      (map row_of (moves_in (flat (written o) ++ drop (4 * o.count) l)))
  accepted_answer ys e z = record {
    number = sym z;
    moved = refl;
    count = refl;
    pool = ap pool_in e ∙ pool_in_image_of o.state outcome_valid;
    list = rows_after (written o) o.count l;
  }
