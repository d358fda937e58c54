-- The list of devices under add, remove and resize.
--
-- Rising: rising_count, rising_distinct, rising_weaken, rising_capacities; of a device of the list: rising_some (there is some capacity),
--   rising_least and rising_most (its own is within the limits)
-- members: member_count, member_first (the first of distinct devices has another id than those after it), member_length
-- present: present_count
-- capacity_of: capacity_of_member (a present id with its capacity is a device of the list)
-- insert: insert_rising, insert_length; delete: delete_rising, delete_length; update: update-ids, update_length, update_rising,
--   update_self (with the capacity that it has)
use mathlib.Core.Path.{◌≡◌, refl, sym, ap, ap₂, subst, ◌∙◌}
use mathlib.Core.Bool.{Bool, true, false, cond, ◌||◌, false≢true}
use mathlib.Core.List.{List, [], ◌∷◌, Memᴰ}
use Prim.Native.Nat.{ℕ, suc, ◌+◌, ◌≤◌, ◌<◌}
use native.Mathlib.Omega.{arith}
use lib.Dec.{eqb, ltb}
use lib.ListN.{length}
use borrow.Author.Tests.{ltb-true, ltb-false, lt-ltb, eqb-true, eqb-false, eq-eqb, ne_eqb}
use Rattle.slicing.specs.Devices.{Device, device, ids, capacities, present, capacity_of, insert, delete, update, Within, Rising}
use Rattle.slicing.specs.Limits.{max_capacity}
use Rattle.slicing.specs.Runs.{one, count}
use Rattle.slicing.proofs.Counting.{Distinct}

rising_count : (a d : ℕ) (ds : List Device) → Rising a ds → d ≤ a → count d (ids ds) ≡ 0
rising_count a d [] h l = refl
rising_count a d (e ∷ ds) h l =
    omega (arith, ap one (ne_eqb d e.id (λ k. omega (arith, h.0.above))), rising_count e.id d ds h.1 (omega (arith, h.0.above)))

pub rising_distinct : (a : ℕ) (ds : List Device) → Rising a ds → Distinct (ids ds)
rising_distinct a [] h d = omega arith
rising_distinct a (e ∷ ds) h d = go (eqb d e.id) refl (rising_distinct e.id ds h.1 d)
  where
    go : (t : Bool) → eqb d e.id ≡ t → count d (ids ds) ≤ 1 → one t + count d (ids ds) ≤ 1
    go true k ih = omega (arith, rising_count e.id d ds h.1 (omega (arith, eqb-true d e.id k)))
    go false k ih = omega arith

rising_weaken : (a b : ℕ) (ds : List Device) → b ≤ a → Rising a ds → Rising b ds
rising_weaken a b [] l h = tt
rising_weaken a b (e ∷ ds) l h =
    (record { above = omega (arith, h.0.above); known = h.0.known; some = h.0.some; most = h.0.most }, h.1)

pub rising_capacities : (a : ℕ) (ds : List Device) → Rising a ds → length ds ≤ capacities ds
rising_capacities a [] h = omega arith
rising_capacities a (e ∷ ds) h = omega (arith, h.0.some, rising_capacities e.id ds h.1)

pub rising_some : {e : Device} (a : ℕ) (ds : List Device) → Rising a ds → Memᴰ e ds → 1 ≤ capacities ds
rising_some {e = e} a [] h m = elim m [ ]
rising_some a (d ∷ ds) h m = omega (arith, h.0.some)

pub rising_least : {e : Device} (a : ℕ) (ds : List Device) → Rising a ds → Memᴰ e ds → 1 ≤ e.capacity
rising_least {e = e} a [] h x'' = elim x'' [ ]
rising_least a (d ∷ ds) h (Memᴰ.head p) = rw p h.0.some
rising_least a (d ∷ ds) h (Memᴰ.tail m) = rising_least d.id ds h.1 m

pub rising_most : {e : Device} (a : ℕ) (ds : List Device) → Rising a ds → Memᴰ e ds → e.capacity ≤ max_capacity
rising_most {e = e} a [] h x'' = elim x'' [ ]
rising_most a (d ∷ ds) h (Memᴰ.head p) = rw p h.0.most
rising_most a (d ∷ ds) h (Memᴰ.tail m) = rising_most d.id ds h.1 m

pub member_count : {e : Device} {ds : List Device} → Memᴰ e ds → 1 ≤ count e.id (ids ds)
member_count {e} (Memᴰ.head {x = f} p) = omega (arith, ap one (eq-eqb e.id f.id (ap (λ g. g.id) p)))
member_count (Memᴰ.tail m) = omega (arith, member_count m)

pub member_first : (f : Device) (ds : List Device) → Distinct (ids (f ∷ ds)) → (e : Device) → Memᴰ e ds → e.id ≡ f.id → ⊥
member_first f ds u e m w =
    omega (arith, u f.id, ap one (eq-eqb f.id f.id refl), member_count m, ap (λ d. count d (ids ds)) w)

pub member_length : {e : Device} {ds : List Device} → Memᴰ e ds → 1 ≤ length ds
member_length (Memᴰ.head p) = omega arith
member_length (Memᴰ.tail m) = omega arith

pub present_count : (d : ℕ) (ds : List Device) → present d ds ≡ ltb 0 (count d (ids ds))
present_count d [] = refl
present_count d (e ∷ ds) = go (eqb d e.id) (present_count d ds)
  where
    go : (t : Bool) → present d ds ≡ ltb 0 (count d (ids ds)) → t || present d ds ≡ ltb 0 (one t + count d (ids ds))
    go true ih = sym (lt-ltb 0 (one true + count d (ids ds)) (omega arith))
    go false ih = let e : one false + count d (ids ds) ≡ count d (ids ds) = omega arith in ih ∙ ap (ltb 0) (sym e)

pub capacity_of_member : (d : ℕ) (ds : List Device) → present d ds ≡ true → Memᴰ (device d (capacity_of ds d)) ds
capacity_of_member d [] h = absurd (false≢true h)
capacity_of_member d (e ∷ ds) h = go (eqb d e.id) refl h (capacity_of_member d ds)
  where
    go : (t : Bool) → eqb d e.id ≡ t → t || present d ds ≡ true → (present d ds ≡ true → Memᴰ (device d (capacity_of ds d)) ds)
        → Memᴰ (device d (cond t e.capacity (capacity_of ds d))) (e ∷ ds)
    go true x k ih = Memᴰ.head (ap (λ z. device z e.capacity) (eqb-true d e.id x))
    go false x k ih = Memᴰ.tail (ih k)

-- ---- insert

pub insert_length : (d c : ℕ) (ds : List Device) → length (insert d c ds) ≡ suc (length ds)
insert_length d c [] = refl
insert_length d c (e ∷ ds) = go (ltb d e.id) (insert_length d c ds)
  where
    go : (t : Bool) → length (insert d c ds) ≡ suc (length ds)
        → length (cond t (device d c ∷ e ∷ ds) (e ∷ insert d c ds)) ≡ suc (suc (length ds))
    go true ih = refl
    go false ih = ap suc ih

pub insert_rising : (a d c : ℕ) (ds : List Device) → Rising a ds → Within a (device d c) → count d (ids ds) ≡ 0 → Rising a (insert d c ds)
insert_rising a d c [] h w k = (w, tt)
insert_rising a d c (e ∷ ds) h w k =
    go (ltb d e.id) refl (λ l. insert_rising e.id d c ds h.1 (record { above = l; known = w.known; some = w.some; most = w.most }) (omega arith))
  where
    go : (t : Bool) → ltb d e.id ≡ t → (e.id < d → Rising e.id (insert d c ds)) → Rising a (cond t (device d c ∷ e ∷ ds) (e ∷ insert d c ds))
    go true x ih =
        (w, (record { above = ltb-true d e.id x; known = h.0.known; some = h.0.some; most = h.0.most }, h.1))
    go false x ih = (h.0, ih (step (eqb d e.id) refl))
      where
        step : (t : Bool) → eqb d e.id ≡ t → e.id < d
        step true y = omega (arith, ap one y)
        step false y = omega (arith, ltb-false d e.id x, eqb-false d e.id y)

-- ---- delete

pub delete_length : (d : ℕ) (ds : List Device) → length (delete d ds) + count d (ids ds) ≡ length ds
delete_length d [] = refl
delete_length d (e ∷ ds) = go (eqb d e.id) (delete_length d ds)
  where
    go : (t : Bool) → length (delete d ds) + count d (ids ds) ≡ length ds
        → length (cond t (delete d ds) (e ∷ delete d ds)) + (one t + count d (ids ds)) ≡ suc (length ds)
    go true ih = omega arith
    go false ih = omega arith

pub delete_rising : (a d : ℕ) (ds : List Device) → Rising a ds → Rising a (delete d ds)
delete_rising a d [] h = tt
delete_rising a d (e ∷ ds) h = go (eqb d e.id) (delete_rising e.id d ds h.1)
  where
    go : (t : Bool) → Rising e.id (delete d ds) → Rising a (cond t (delete d ds) (e ∷ delete d ds))
    go true ih = rising_weaken e.id a (delete d ds) (omega (arith, h.0.above)) ih
    go false ih = (h.0, ih)

-- ---- update

pub update_length : (d c : ℕ) (ds : List Device) → length (update d c ds) ≡ length ds
update_length d c [] = refl
update_length d c (e ∷ ds) = ap suc (update_length d c ds)

pub update_rising : (a d c : ℕ) (ds : List Device) → Rising a ds → 1 ≤ c → c ≤ max_capacity → Rising a (update d c ds)
update_rising a d c [] h l m = tt
update_rising a d c (e ∷ ds) h l m = (go (eqb d e.id), update_rising e.id d c ds h.1 l m)
  where
    go : (t : Bool) → Within a (device e.id (cond t c e.capacity))
    go true = record { above = h.0.above; known = h.0.known; some = l; most = m }
    go false = record { above = h.0.above; known = h.0.known; some = h.0.some; most = h.0.most }

update_absent : (d c : ℕ) (ds : List Device) → count d (ids ds) ≡ 0 → update d c ds ≡ ds
update_absent d c [] h = refl
update_absent d c (e ∷ ds) h = go (eqb d e.id) h (update_absent d c ds (omega arith))
  where
    go : (t : Bool) → one t + count d (ids ds) ≡ 0 → update d c ds ≡ ds → device e.id (cond t c e.capacity) ∷ update d c ds ≡ e ∷ ds
    go true k ih = absurd (omega arith)
    go false k ih = ap (λ l. e ∷ l) ih

pub update_self : {e : Device} (ds : List Device) → Distinct (ids ds) → Memᴰ e ds → update e.id e.capacity ds ≡ ds
update_self {e = e} [] u x'' = elim x'' [ ]
update_self {e} (f ∷ ds) u (Memᴰ.head p) =
    let t = eq-eqb f.id f.id refl in
    subst (λ (g : Device). update g.id g.capacity (f ∷ ds) ≡ f ∷ ds) (sym p)
    (ap₂ (λ b l. device f.id (cond b f.capacity f.capacity) ∷ l) t
    (update_absent f.id f.capacity ds (omega (arith, u f.id, ap one t))))
update_self {e} (f ∷ ds) u (Memᴰ.tail m) =
    ap₂ (λ b l. device f.id (cond b e.capacity f.capacity) ∷ l) (ne_eqb e.id f.id (member_first f ds u e m))
    (update_self ds (λ d. omega (arith, u d)) m)
