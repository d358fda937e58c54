-- Opened pools and the rules' state.
--
--   devices_in o          the devices of an opened pool
--   state_with o t        the state with its numbers and devices, and the table t
--   state_in o table      the state that an opened pool holds, its table in the array
--   Open o table         that state is valid, and what each row has is what the table gives it
use Rattle.std.specs.Prelude.{◌≡◌, List, ℕ, ◌<◌, length}
use Rattle.slicing.specs.Changes.{State}
use Rattle.slicing.specs.Devices.{Device}
use Rattle.slicing.specs.Runs.{Run, owned, relabel}
use Rattle.slicing.specs.Validity.{Valid}
use Rattle.slicing_core.specs.Rows.{at, device_rows}
use Rattle.packed_runs.specs.Words.{runs, room, Labelled}
use Rattle.opened.specs.declared.Opened.{Opened}

abbrev pub devices_in : Opened → List Device
devices_in o = device_rows o.ids o.capacities 0 o.devices

abbrev pub state_with : Opened → List (Run ℕ) → State
state_with o t = record { range = o.range; limit = o.limit; devices = devices_in o; table = t }

abbrev pub state_in : Opened → List ℕ → State
state_in o table = state_with o (relabel (at o.ids) (runs table 0 o.intervals))

pub record Open (o : Opened) (table : List ℕ) : Type 0 where
  pub valid : Valid (state_in o table)
  pub labels : Labelled o.devices table o.intervals
  -- old shares are what the table gives
  pub held : (i : ℕ) → i < o.devices → at o.has i ≡ owned i (runs table 0 o.intervals)
  pub ids_size : length o.ids ≡ 256
  pub capacities_size : length o.capacities ≡ 256
  pub has_size : length o.has ≡ 256
  pub table_size : length table ≡ room
