-- Greatest divisors on arrays: what the stages of `greatest_divisors` promise.
--
--   point_rows p ids caps i n     n devices from place i, each with the points that p has of it
--   Dealt R ids caps n p left    p is what the rule has dealt when left points of R remain
use Rattle.std.specs.Prelude.{◌≡◌, List, [], ◌∷◌, ℕ, zero, suc, ◌+◌, ◌≤◌, ◌<◌, length}
use Rattle.slicing.specs.Devices.{Device, device}
use Rattle.slicing.specs.LowerQuota.{give_all, allotted}
use Rattle.slicing.specs.Runs.{Run, ◌of◌}
use Rattle.slicing_core.specs.Rows.{at, device_rows}

abbrev pub point_rows : List ℕ → List ℕ → List ℕ → ℕ → ℕ → List (Run Device)
point_rows p ids caps i zero = []
point_rows p ids caps i (suc n) = (at p i of device (at ids i) (at caps i)) ∷ point_rows p ids caps (suc i) n

-- the points that remain, given one by one, make what each device is allotted
pub record Dealt (R : ℕ) (ids caps : List ℕ) (n : ℕ) (p : List ℕ) (left : ℕ) : Type 0 where
  pub size : length p ≡ 256
  pub most : (i : ℕ) → i < n → at p i + left ≤ R
  pub rest : give_all left (point_rows p ids caps 0 n) ≡ allotted R (device_rows ids caps 0 n)
