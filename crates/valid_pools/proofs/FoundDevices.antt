-- Laws of a device found by its id.
--
-- made: found_two (an id outside its limits), found_five, found_present (its row)
-- used: found_as (a call that answers f of the device, or the same refusal)
-- Measured: measured_in (of a valid state), measured_of, measured_all (of any pool, also where the device is refused)
use mathlib.Core.Path.{◌≡◌, refl, sym, ap, ◌∙◌}
use mathlib.Core.Bool.{Bool, true, false, cond}
use mathlib.Core.List.{List}
use Prim.Native.Nat.{ℕ, ◌<◌}
use native.Mathlib.Omega.{arith}
use Rattle.std.specs.Prelude.{Result, Ok, Err, IfOk}
use Rattle.refusals.specs.declared.Refusal.{Refusal}
use Rattle.refusals.specs.declared.Refusal.TheVariants.{Outside, Absent}
use Rattle.slicing.specs.Changes.{State}
use Rattle.slicing.specs.Devices.{device, capacities, present, capacity_of}
use Rattle.slicing.specs.Limits.{max_id, outside}
use Rattle.slicing.specs.ShareRule.{share_of}
use Rattle.slicing.specs.Validity.{Valid}
use Rattle.slicing.proofs.Devices.{rising_some, capacity_of_member}
use Rattle.slicing.proofs.Reports.{report_sizes}
use Rattle.slicing_core.specs.Rows.{at}
use Rattle.slicing_core.proofs.DeviceRows.{position_present, capacity_of_row}
use Rattle.opened.specs.declared.Opened.{Opened}
use Rattle.opened.specs.OpenPools.{devices_in, state_in, Open}
use Rattle.opened.proofs.OpenPools.{open_ascending, open_share}
use Rattle.pools.specs.declared.Pool.{Pool}
use Rattle.valid_pools.specs.Finding.{numbers_of, FoundIn, FoundOf, found, invalid, with_device, Measured}
use Rattle.valid_pools.specs.declared.finding.Found.{Found}

module _ {o : Opened} {table : List ℕ} (h : Open o table) (id row : ℕ) (l : row < o.devices) (i : at o.ids row ≡ id) where
  capacity_at : at o.capacities row ≡ capacity_of (devices_in o) id
  capacity_at = sym (capacity_of_row o.ids o.capacities o.devices row l (open_ascending h)) ∙ ap (capacity_of (devices_in o)) i

  points_at : at o.has row ≡ share_of o.range (devices_in o) id
  points_at = open_share h row l ∙ ap (share_of o.range (devices_in o)) i

  pub found_present : outside max_id id ≡ false
      → FoundIn (state_in o table) id
      (Ok (record { range = o.range; capacity = at o.capacities row; sum = capacities (devices_in o); points = at o.has row }))
  found_present e = record {
    same = rw (e, position_present o.ids o.capacities o.devices id row l i)
        (λ j. Ok (record { range = o.range; capacity = capacity_at j; sum = capacities (devices_in o); points = points_at j }));
  }

pub found_two : (s : State) (id : ℕ) → outside max_id id ≡ true → FoundIn s id (Err Outside)
found_two s id o = record { same = rw o }

pub found_five : (s : State) (id : ℕ) → outside max_id id ≡ false → present id s.devices ≡ false → FoundIn s id (Err Absent)
found_five s id o a = record { same = rw (o, a) }

-- ---- what a call makes of it

pub found_as : {A : Type 0} {s : State} {id : ℕ} {r : Result Found Refusal} (f : Found → A) → FoundIn s id r
    → with_device f r ≡ cond (outside max_id id) (Err Outside) (cond (present id s.devices) (Ok (f (numbers_of s id))) (Err Absent))
found_as {A} {s} {id} f h = ap (with_device f) h.same ∙ go (outside max_id id) (present id s.devices)
  where
    go : (a b : Bool)
        → with_device f (cond a (Err Outside) (cond b (Ok (numbers_of s id)) (Err Absent)))
        ≡ cond a (Err Outside) (cond b (Ok (f (numbers_of s id))) (Err Absent))
    go true b = refl
    go false true = refl
    go false false = refl

-- ---- sizes

abbrev accepted : Result Found Refusal → ℕ
accepted (Ok d) = 1
accepted (Err e) = 0

abbrev device_or : Found → Result Found Refusal → Found
device_or g (Ok d) = d
device_or g (Err e) = g

pub measured_in : {s : State} {id : ℕ} {f : Found} → Valid s → FoundIn s id (Ok f) → Measured f
measured_in {s} {id} {f} v h = go (outside max_id id) (present id s.devices) refl h.same
  where
    here : present id s.devices ≡ true → Measured (numbers_of s id)
    here p =
        let m = capacity_of_member id s.devices p in
        let k = report_sizes s.range s.devices v.rising (device id (capacity_of s.devices id)) m v.most v.few in
        record { due = k.0; held = k.1; some = rising_some 0 s.devices v.rising m }

    go : (a b : Bool) → present id s.devices ≡ b → Ok f ≡ cond a (Err Outside) (cond b (Ok (numbers_of s id)) (Err Absent)) → Measured f
    go true b e q = let z : ◌≡◌ {A = ℕ} 1 0 = ap accepted q in absurd (omega (arith, z))
    go false true e q = rw (ap (device_or f) q) (here e)
    go false false e q = let z : ◌≡◌ {A = ℕ} 1 0 = ap accepted q in absurd (omega (arith, z))

pub measured_of : {p : Pool} {id : ℕ} {f : Found} → FoundOf p id (Ok f) → Measured f
measured_of (found v h) = measured_in v.valid h
measured_of (invalid n e) = let z : ◌≡◌ {A = ℕ} 1 0 = ap accepted e in absurd (omega (arith, z))

pub measured_all : {p : Pool} {id : ℕ} (r : Result Found Refusal) → FoundOf p id r → IfOk r Measured
measured_all (Ok f) h = measured_of h
measured_all (Err e) h = tt
