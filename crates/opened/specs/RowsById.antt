-- The row of a device, found by its id.
--
--   Sought ids n id r    r is the row of id among the first n ids, or the row that it would have
use Rattle.std.specs.Prelude.{◌≡◌, true, false, List, ℕ, ◌<◌, Result, Ok, Err}
use Rattle.slicing.specs.Devices.{present}
use Rattle.slicing_core.specs.Rows.{at, device_rows}
use Rattle.slicing_core.specs.Stages.{Position}

abbrev pub Sought : List ℕ → ℕ → ℕ → Result ℕ ℕ → Type 0
Sought ids n id (Ok row) = Position ids n id row × (row < n) × (at ids row ≡ id) × ((c : List ℕ) → present id (device_rows ids c 0 n) ≡ true)
Sought ids n id (Err row) = Position ids n id row × ((c : List ℕ) → present id (device_rows ids c 0 n) ≡ false)
