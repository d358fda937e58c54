-- Laws of rows of devices: what a caller needs to go from arrays to the rules' list of devices.
--
-- Rising: rising_row, row_rising (a loop over the rows); within_rising, ascending_rising, below_rising, capacities_rising
-- present: position_present, position_absent; capacity_of: capacity_of_row
-- insert: insert_rows; delete: delete_rows; update: update_rows
use mathlib.Core.Path.{◌≡◌, refl, sym, ap, ◌∙◌}
use mathlib.Core.Bool.{Bool, true, false, cond, ◌||◌}
use mathlib.Core.List.{List, ◌∷◌}
use mathlib.Core.Logic.{◌⊎◌, inl, inr}
use Prim.Native.Nat.{ℕ, zero, suc, ◌+◌, ◌-◌, ◌≤◌, ◌<◌}
use native.Mathlib.Nat.{eq-or-lt_of_le}
use native.Mathlib.Numerals.{add-one}
use native.Mathlib.Omega.{arith}
use lib.Dec.{eqb, ltb}
use lib.ListN.{length, set}
use lib.Seq.{get_or-set_same, get_or-set_other}
use borrow.Author.Tests.{lt-ltb, le-ltb, eq-eqb, ne_eqb, eqb-true, eqb-false, ltb-true, ltb-false}
use Rattle.slicing.specs.Devices.{device, present, capacity_of, insert, delete, update, Within, Rising}
use Rattle.slicing.proofs.Limits.{capacity_size}
use Rattle.slicing_core.specs.Rows.{at, device_rows}
use Rattle.slicing_core.specs.Stages.{Below, Ascending, Position, Inserted, Deleted}
use Rattle.slicing_core.proofs.Rows.{device_rows_step}

-- ---- Rising over the rows left

module _ (a : ℕ) (d c : List ℕ) (i n : ℕ) where
  pub rising_row : i < n → Rising a (device_rows d c i (n - i))
      → Within a (device (at d i) (at c i)) × Rising (at d i) (device_rows d c (i + 1) (n - (i + 1)))
  rising_row l h = rw (device_rows_step d c i n l) at h

  pub row_rising : i < n → Within a (device (at d i) (at c i)) → Rising (at d i) (device_rows d c (i + 1) (n - (i + 1)))
      → Rising a (device_rows d c i (n - i))
  row_rising l w h = rw (device_rows_step d c i n l) (w, h)

-- ---- rows that rise, place by place

module _ (d c : List ℕ) where
  within_from : (a i m : ℕ) → Rising a (device_rows d c i m) → (k : ℕ) → i ≤ k → k < i + m → Within a (device (at d k) (at c k))
  within_from a i zero h k l b = absurd (omega arith)
  within_from a i (suc m) h k l b = go (eq-or-lt_of_le l) (λ s. within_from (at d i) (suc i) m h.1 k s (omega arith))
    where
      go : (i ≡ k) ⊎ (i < k) → (suc i ≤ k → Within (at d i) (device (at d k) (at c k))) → Within a (device (at d k) (at c k))
      go (inl e) ih = rw (← e) h.0
      go (inr s) ih =
          let w = ih s in
          record { above = omega (arith, h.0.above, w.above); known = w.known; some = w.some; most = w.most }

  ascending_from : (a i m : ℕ) → Rising a (device_rows d c i m) → (j k : ℕ) → i ≤ j → j < k → k < i + m → at d j < at d k
  ascending_from a i zero h j k l s b = absurd (omega arith)
  ascending_from a i (suc m) h j k l s b = go (eq-or-lt_of_le l) (λ r. ascending_from (at d i) (suc i) m h.1 j k r s (omega arith))
    where
      go : (i ≡ j) ⊎ (i < j) → (suc i ≤ j → at d j < at d k) → at d j < at d k
      go (inl e) ih = rw (← e) (within_from (at d i) (suc i) m h.1 k (omega arith) (omega arith)).above
      go (inr r) ih = ih r

  module _ (n : ℕ) (h : Rising 0 (device_rows d c 0 n)) where
    pub within_rising : (k : ℕ) → k < n → Within 0 (device (at d k) (at c k))
    within_rising k l = within_from 0 0 n h k (omega arith) (omega arith)

    pub ascending_rising : Ascending d n
    ascending_rising j k s l = ascending_from 0 0 n h j k (omega arith) s (omega arith)

    pub below_rising : Below 65536 d n
    below_rising k l = omega (arith, (within_rising k l).known)

    pub capacities_rising : Below 4294967296 c n
    capacities_rising k l = capacity_size (within_rising k l).most

-- ---- whether an id is present: at its place among rising ids, or nowhere

-- the id v is in none of the m rows from i on
abbrev pub Without : List ℕ → ℕ → ℕ → ℕ → Type 0
Without d v i m = (k : ℕ) → i ≤ k → k < i + m → v ≡ at d k → ⊥

present_at : (d c : List ℕ) (v i m k : ℕ) → i ≤ k → k < i + m → v ≡ at d k → present v (device_rows d c i m) ≡ true
present_at d c v i zero k l b e = absurd (omega arith)
present_at d c v i (suc m) k l b e = go (eq-or-lt_of_le l) (λ s. present_at d c v (suc i) m k s (omega arith) e) (eqb v (at d i)) refl
  where
    go : (i ≡ k) ⊎ (i < k) → (suc i ≤ k → present v (device_rows d c (suc i) m) ≡ true) → (t : Bool) → eqb v (at d i) ≡ t
        → t || present v (device_rows d c (suc i) m) ≡ true
    go o ih true x = refl
    go (inl j) ih false x = absurd (eqb-false v (at d i) x (rw j e))
    go (inr s) ih false x = ih s

pub present_without : (d c : List ℕ) (v i m : ℕ) → Without d v i m → present v (device_rows d c i m) ≡ false
present_without d c v i zero h = refl
present_without d c v i (suc m) h =
    rw (ne_eqb v (at d i) (h i (omega arith) (omega arith)), present_without d c v (suc i) m (λ k l b. h k (omega arith) (omega arith)))

pub position_present : (d c : List ℕ) (n v p : ℕ) → p < n → at d p ≡ v → present v (device_rows d c 0 n) ≡ true
position_present d c n v p l e = present_at d c v 0 n p (omega arith) (omega arith) (sym e)

module _ {d : List ℕ} {n v p : ℕ} (q : Position d n v p) (a : Ascending d n) where
  position_without : (p < n → at d p ≡ v → ⊥) → Without d v 0 n
  position_without h k l b e = go (eqb k p) refl
    where
      go : (t : Bool) → eqb k p ≡ t → ⊥
      go true x = let z : k ≡ p = eqb-true k p x in h (omega arith) (rw (← z) (sym e))
      go false x = pick (ltb k p) refl
        where
          pick : (t : Bool) → ltb k p ≡ t → ⊥
          pick true y = omega (arith, q.below k (ltb-true k p y))
          pick false y =
              let s : p < k = omega (arith, eqb-false k p x, ltb-false k p y) in
              omega (arith, q.from (omega arith), a p k s (omega arith))

  pub position_absent : (c : List ℕ) → (p < n → at d p ≡ v → ⊥) → present v (device_rows d c 0 n) ≡ false
  position_absent c h = present_without d c v 0 n (position_without h)

-- the capacity at a row whose id none before it has
capacity_of_at : (d c : List ℕ) (i m p : ℕ) → i ≤ p → p < i + m → Without d (at d p) i (p - i) → capacity_of (device_rows d c i m) (at d p) ≡ at c p
capacity_of_at d c i zero p a b h = absurd (omega arith)
capacity_of_at d c i (suc m) p a b h = go (eq-or-lt_of_le a) (λ s. capacity_of_at d c (suc i) m p s (omega arith) (λ k l z. h k (omega arith) (omega arith)))
  where
    go : (i ≡ p) ⊎ (i < p) → (suc i ≤ p → capacity_of (device_rows d c (suc i) m) (at d p) ≡ at c p)
        → cond (eqb (at d p) (at d i)) (at c i) (capacity_of (device_rows d c (suc i) m) (at d p)) ≡ at c p
    go (inl e) ih = rw (← e, eq-eqb (at d i) (at d i) refl)
    go (inr s) ih = rw (ne_eqb (at d p) (at d i) (h i (omega arith) (omega arith))) (ih s)

pub capacity_of_row : (d c : List ℕ) (n p : ℕ) → p < n → Ascending d n → capacity_of (device_rows d c 0 n) (at d p) ≡ at c p
capacity_of_row d c n p l a = capacity_of_at d c 0 n p (omega arith) (omega arith) (λ k b z e. omega (arith, a k p (omega arith) l))

-- ---- rows that stand one place further on in other arrays

abbrev Up : List ℕ → List ℕ → ℕ → ℕ → Type 0
Up xs ys i m = (k : ℕ) → i ≤ k → k < i + m → at ys (k + 1) ≡ at xs k

up_first : (xs ys : List ℕ) (i m : ℕ) → Up xs ys i (suc m) → at ys (suc i) ≡ at xs i
up_first xs ys i m h = rw (← add-one i) (h i (omega arith) (omega arith))

up_rest : (xs ys : List ℕ) (i m : ℕ) → Up xs ys i (suc m) → Up xs ys (suc i) m
up_rest xs ys i m h k l b = h k (omega arith) (omega arith)

device_rows_up : (d c d' c' : List ℕ) (i m : ℕ) → Up d d' i m → Up c c' i m → device_rows d' c' (suc i) m ≡ device_rows d c i m
device_rows_up d c d' c' i zero f g = refl
device_rows_up d c d' c' i (suc m) f g =
    rw (up_first d d' i m f, up_first c c' i m g, device_rows_up d c d' c' (suc i) m (up_rest d d' i m f) (up_rest c c' i m g))

up_inserted : {xs ys : List ℕ} {n p v : ℕ} → Inserted xs n p v ys → (m : ℕ) → p + m ≤ n → Up xs ys p m
up_inserted h m b k l s = h.after k l (omega arith)

up_deleted : {xs ys : List ℕ} {n p : ℕ} → Deleted xs n p ys → (m : ℕ) → p + m < n → Up ys xs p m
up_deleted h m b k l s = sym (h.after k l (omega arith))

-- ---- insert

-- an absent id goes to its place
module _ {d c d' c' : List ℕ} {n p v w : ℕ} (q : Position d n v p) (new : p < n → at d p ≡ v → ⊥)
    (x : Inserted d n p v d') (y : Inserted c n p w c') where
  insert_from : (i m : ℕ) → i + m ≡ n → i ≤ p → device_rows d' c' i (suc m) ≡ insert v w (device_rows d c i m)
  insert_from i zero e l = let k : i ≡ p = omega (arith, q.most) in rw (k, x.here, y.here)
  insert_from i (suc m) e l = go (eq-or-lt_of_le l) (insert_from (suc i) m (omega arith))
    where
      go : (i ≡ p) ⊎ (i < p) → (suc i ≤ p → device_rows d' c' (suc i) (suc m) ≡ insert v w (device_rows d c (suc i) m))
          → device_rows d' c' i (suc (suc m)) ≡ insert v w (device_rows d c i (suc m))
      go (inl k) ih =
          let l : p < n = omega arith in
          rw (k, x.here, y.here, lt-ltb v (at d p) (omega (arith, q.from l, new l)))
          (ap (λ r. device v w ∷ r) (device_rows_up d c d' c' p (suc m) (up_inserted x (suc m) (omega arith)) (up_inserted y (suc m) (omega arith))))
      go (inr s) ih =
          rw (x.before i s, y.before i s, le-ltb v (at d i) (omega (arith, q.below i s)))
          (ap (λ r. device (at d i) (at c i) ∷ r) (ih s))

  pub insert_rows : device_rows d' c' 0 (n + 1) ≡ insert v w (device_rows d c 0 n)
  insert_rows = rw (add-one n) (insert_from 0 n (omega arith) (omega arith))

-- ---- delete

-- of ids that rise, those of other places differ
ascending_differ : (d : List ℕ) {n : ℕ} → Ascending d n → (j k : ℕ) → j < n → k < n → (j ≡ k → ⊥) → at d j ≡ at d k → ⊥
ascending_differ d a j k l m h e = go (ltb j k) refl
  where
    go : (t : Bool) → ltb j k ≡ t → ⊥
    go true x = omega (arith, a j k (ltb-true j k x) m)
    go false x = omega (arith, a k j (omega (arith, ltb-false j k x, h)) l)

delete_without : (d c : List ℕ) (v i m : ℕ) → Without d v i m → delete v (device_rows d c i m) ≡ device_rows d c i m
delete_without d c v i zero h = refl
delete_without d c v i (suc m) h =
    rw (ne_eqb v (at d i) (h i (omega arith) (omega arith)), delete_without d c v (suc i) m (λ k l b. h k (omega arith) (omega arith)))

module _ {d c d' c' : List ℕ} {n p v : ℕ} (l : p < n) (e : at d p ≡ v) (a : Ascending d n)
    (x : Deleted d n p d') (y : Deleted c n p c') where
  delete_here : (m : ℕ) → p + suc m ≡ n → device_rows d' c' p m ≡ delete v (device_rows d c p (suc m))
  delete_here m s =
      rw (eq-eqb v (at d p) (sym e), delete_without d c v (suc p) m (λ k h r z. omega (arith, a p k (omega arith) (omega arith))))
      (sym (device_rows_up d' c' d c p m (up_deleted x m (omega arith)) (up_deleted y m (omega arith))))

  delete_from : (i m : ℕ) → i + suc m ≡ n → i ≤ p → device_rows d' c' i m ≡ delete v (device_rows d c i (suc m))
  delete_from i zero s h = let k : i ≡ p = omega arith in rw k (delete_here zero (omega arith))
  delete_from i (suc m) s h = go (eq-or-lt_of_le h) (delete_from (suc i) m (omega arith))
    where
      go : (i ≡ p) ⊎ (i < p) → (suc i ≤ p → device_rows d' c' (suc i) m ≡ delete v (device_rows d c (suc i) (suc m)))
          → device_rows d' c' i (suc m) ≡ delete v (device_rows d c i (suc (suc m)))
      go (inl k) ih = rw k (delete_here (suc m) (omega arith))
      go (inr r) ih =
          rw (x.before i r, y.before i r, ne_eqb v (at d i) (λ z. omega (arith, a i p r l)))
          (ap (λ q. device (at d i) (at c i) ∷ q) (ih r))

  pub delete_rows : device_rows d' c' 0 (n - 1) ≡ delete v (device_rows d c 0 n)
  delete_rows =
      let k : suc (n - 1) ≡ n = omega arith in
      delete_from 0 (n - 1) (omega arith) (omega arith) ∙ ap (λ m. delete v (device_rows d c 0 m)) k

-- ---- update

module _ (d c : List ℕ) {n p v : ℕ} (w : ℕ) (l : p < n) (e : at d p ≡ v) (a : Ascending d n) (b : p < length c) where
  updated : (i : ℕ) → i < n → at (set c p w) i ≡ cond (eqb v (at d i)) w (at c i)
  updated i m = go (eqb i p) refl
    where
      go : (t : Bool) → eqb i p ≡ t → at (set c p w) i ≡ cond (eqb v (at d i)) w (at c i)
      go true x = rw (eqb-true i p x, get_or-set_same c p w 0 b, eq-eqb v (at d p) (sym e))
      go false x =
          let z : i ≡ p → ⊥ = eqb-false i p x in
          rw (get_or-set_other c p i w 0 z, ne_eqb v (at d i) (λ k. ascending_differ d a i p m l z (sym k ∙ sym e)))

  update_from : (i m : ℕ) → i + m ≤ n → device_rows d (set c p w) i m ≡ update v w (device_rows d c i m)
  update_from i zero s = refl
  update_from i (suc m) s = rw (updated i (omega arith), update_from (suc i) m (omega arith))

  pub update_rows : device_rows d (set c p w) 0 n ≡ update v w (device_rows d c 0 n)
  update_rows = update_from 0 n (omega arith)
