-- Dues on arrays: what `dues` promises.
--
--   Floored R ids caps n C floors left     the floors of n rows stand in floors, and left points of R are left over
use Rattle.std.specs.Prelude.{◌≡◌, List, ℕ, ◌+◌, ◌*◌, ◌/◌, ◌<◌, length}
use Rattle.slicing.specs.Dues as Rule
use Rattle.slicing_core.specs.Rows.{at, device_rows}

pub record Floored (R : ℕ) (ids caps : List ℕ) (n C : ℕ) (floors : List ℕ) (left : ℕ) : Type 0 where
  pub size : length floors ≡ 256
  pub floored : (i : ℕ) → i < n → at floors i ≡ R * at caps i / C
  pub rest : left + Rule.floors R C (device_rows ids caps 0 n) ≡ R
