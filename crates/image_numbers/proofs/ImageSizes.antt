-- How many bytes the parts of an image have.
--
-- length_bytes, length_head, length_device_bytes, length_interval_bytes, length_image_of
use mathlib.Core.Path.{◌≡◌, refl, ap}
use mathlib.Core.List.{List, [], ◌∷◌, ◌++◌}
use Prim.Native.Nat.{ℕ, zero, suc, ◌+◌, ◌*◌}
use native.Mathlib.Omega.{arith}
use lib.ListN.{length, length-append}
use Rattle.sha1_blocks.specs.Fips180.{bytes}
use Rattle.slicing.specs.Changes.{State}
use Rattle.slicing.specs.Devices.{Device}
use Rattle.slicing.specs.Runs.{Run, ◌of◌}
use Rattle.image_numbers.specs.Format.{head_size, head, device_bytes, interval_bytes, image_of}

pub length_bytes : (k x : ℕ) → length (bytes k x) ≡ k
length_bytes zero x = refl
length_bytes (suc k) x = ap suc (length_bytes k x)

pub length_head : (R M n q : ℕ) → length (head R M n q) ≡ head_size
length_head R M n q = refl

pub length_device_bytes : (ds : List Device) → length (device_bytes ds) ≡ 6 * length ds
length_device_bytes [] = refl
length_device_bytes (e ∷ ds) = omega (arith, length_device_bytes ds)

pub length_interval_bytes : (p : ℕ) (rs : List (Run ℕ)) → length (interval_bytes p rs) ≡ 6 * length rs
length_interval_bytes p [] = refl
length_interval_bytes p ((n of d) ∷ rs) = omega (arith, length_interval_bytes (p + n) rs)

pub length_image_of : (s : State) → length (image_of s) ≡ head_size + 6 * length s.devices + 6 * length s.table
unfolding image_of
length_image_of s =
    omega (
      arith,
      length-append (head s.range s.limit (length s.devices) (length s.table)) (device_bytes s.devices ++ interval_bytes 0 s.table),
      length-append (device_bytes s.devices) (interval_bytes 0 s.table),
      length_head s.range s.limit (length s.devices) (length s.table),
      length_device_bytes s.devices,
      length_interval_bytes 0 s.table,
    )
