-- The devices of a pool, a list by rising id. Renders document 01, 'Pool and range'.
--
--   Device             an id and a capacity in thousandths of a TB
--   ids ds             the ids, in order
--   capacities ds      C, the sum of the capacities
--   present d ds       whether a device has the id d
--   capacity_of ds d    the capacity of the device d, 0 if it is absent
--   insert d c ds      ds with a device more, at its place by rising id
--   delete d ds        ds without the device d
--   update d c ds      ds with another capacity of the device d
--   Rising a ds        the devices are within their limits, and their ids rise from above a
use Rattle.std.specs.Prelude.{Bool, false, cond, ◌||◌, List, [], ◌∷◌, ℕ, ◌+◌, ◌≤◌, ◌<◌, eqb, ltb}
use Rattle.slicing.specs.Limits.{max_id, max_capacity}

pub record Device : Type 0 where
  pub id : ℕ
  pub capacity : ℕ

abbrev pub device : ℕ → ℕ → Device
device d c = record { id = d; capacity = c }

abbrev pub ids : List Device → List ℕ
ids [] = []
ids (e ∷ ds) = e.id ∷ ids ds

abbrev pub capacities : List Device → ℕ
capacities [] = 0
capacities (e ∷ ds) = e.capacity + capacities ds

abbrev pub present : ℕ → List Device → Bool
present d [] = false
present d (e ∷ ds) = eqb d e.id || present d ds

abbrev pub capacity_of : List Device → ℕ → ℕ
capacity_of [] d = 0
capacity_of (e ∷ ds) d = let r = capacity_of ds d in cond (eqb d e.id) e.capacity r

abbrev pub insert : ℕ → ℕ → List Device → List Device
insert d c [] = device d c ∷ []
insert d c (e ∷ ds) = let r = insert d c ds in cond (ltb d e.id) (device d c ∷ e ∷ ds) (e ∷ r)

abbrev pub delete : ℕ → List Device → List Device
delete d [] = []
delete d (e ∷ ds) = let r = delete d ds in cond (eqb d e.id) r (e ∷ r)

abbrev pub update : ℕ → ℕ → List Device → List Device
update d c [] = []
update d c (e ∷ ds) = device e.id (cond (eqb d e.id) c e.capacity) ∷ update d c ds

-- 'A device has an id (1 to 65,535) and a capacity in thousandths of a TB', 1 to 16,000,000 (Wish 1).
pub record Within (a : ℕ) (e : Device) : Type 0 where
  pub above : a < e.id
  pub known : e.id ≤ max_id
  pub some : 1 ≤ e.capacity
  pub most : e.capacity ≤ max_capacity

abbrev pub Rising : ℕ → List Device → Type 0
Rising a [] = Unit {0}
Rising a (e ∷ ds) = Within a e × Rising e.id ds
