-- One device, found by its id in an opened pool or in a pool by value.
--
--   numbers_of s id      the range, and of the device id its capacity, the sum of all capacities, its share
--   found_of s id        these, or the refusal
--   FoundIn s id r      r is that
--   FoundOf p id r      r is that of a valid pool p, or 2
--   with_device f r     the answer r with f of the device that was found
--   Measured f          products of the numbers of the device f are far inside 64 bits with a sign, and the sum is not 0
--   report_from f        the report on the device f
use Rattle.std.specs.Prelude.{◌≡◌, cond, ℕ, ◌+◌, ◌*◌, ◌/◌, ◌%◌, ◌≤◌, pos, ◌-ℤ◌, Result, Ok, Err}
use Rattle.refusals.specs.declared.Refusal.{Refusal}
use Rattle.refusals.specs.declared.Refusal.TheVariants.{Outside, Absent}
use Rattle.slicing.specs.Changes.{State}
use Rattle.slicing.specs.Devices.{capacities, present, capacity_of}
use Rattle.slicing.specs.Limits.{max_id, outside}
use Rattle.slicing.specs.ShareRule.{share_of}
use Rattle.pools.specs.Pools.{state_of, ValidPool}
use Rattle.pools.specs.declared.Pool.{Pool}
use Rattle.valid_pools.specs.declared.DeviceReport.{DeviceReport}
use Rattle.valid_pools.specs.declared.finding.Found.{Found}

abbrev pub numbers_of : State → ℕ → Found
numbers_of s id = record {
  range = s.range;
  capacity = capacity_of s.devices id;
  sum = capacities s.devices;
  points = share_of s.range s.devices id;
}

-- 2 for an id outside its limits, 5 for an absent one
abbrev pub found_of : State → ℕ → Result Found Refusal
found_of s id = cond (outside max_id id) (Err Outside) (cond (present id s.devices) (Ok (numbers_of s id)) (Err Absent))

pub record FoundIn (s : State) (id : ℕ) (r : Result Found Refusal) : Type 0 where
  pub same : r ≡ found_of s id

pub data FoundOf (p : Pool) (id : ℕ) (r : Result Found Refusal) : Type 0 where
  found : ValidPool p → FoundIn (state_of p) id r → FoundOf p id r
  invalid : (ValidPool p → ⊥) → r ≡ Err Outside → FoundOf p id r

abbrev pub with_device : {A : Type 0} → (Found → A) → Result Found Refusal → Result A Refusal
with_device f (Ok d) = Ok (f d)
with_device f (Err e) = Err e

pub record Measured (f : Found) : Type 0 where
  pub due : f.range * f.capacity ≤ 68719476736000000
  pub held : f.points * f.sum ≤ 68719476736000000 + 256 * 4096000000
  pub some : 1 ≤ f.sum

abbrev pub report_from : Found → DeviceReport
report_from f = record {
  whole = f.range * f.capacity / f.sum;
  remainder = f.range * f.capacity % f.sum;
  difference = pos (f.points * f.sum) -ℤ pos (f.range * f.capacity);
}
