-- Laws of rows of equal arrays.
--
-- Rising: rising_same
use mathlib.Core.Path.{◌≡◌}
use mathlib.Core.List.{List}
use Prim.Native.Nat.{ℕ}
use Rattle.slicing.specs.Devices.{Rising}
use Rattle.slicing_core.specs.Rows.{device_rows}

pub rising_same : (n : ℕ) {d c d' c' : List ℕ} → d ≡ d' → c ≡ c' → Rising 0 (device_rows d c 0 n) → Rising 0 (device_rows d' c' 0 n)
rising_same n e f h = rw (e, f) at h
