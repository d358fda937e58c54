-- `image_rows::rows::put_devices` meets its contract. The loop's invariant: the first i rows are written, and the rest is as it was.
use mathlib.Core.Path.{◌≡◌}
use mathlib.Core.List.{◌++◌}
use Prim.Native.Nat.{◌*◌, ◌≤◌}
use lib.ListN.{length, drop}
use Rattle.slicing.specs.ShareRule.{share_of}
use Rattle.slicing_core.specs.Rows.{device_rows}
use Rattle.opened.specs.OpenPools.{devices_in}
use Rattle.image_rows.specs.Promises.{devices_with}
use Rattle.image_rows.proofs.rows.put_devices.Given as goal

abbrev pub invariant-loop-i : goal.invariant-loop-i
invariant-loop-i l =
    (length l.rows ≡ length l.initial.rows)
    × (l.opened.devices ≤ 256)
    × (l.rows ≡ devices_with (share_of l.opened.range (devices_in l.opened)) (device_rows l.opened.ids l.opened.capacities 0 l.i) ++ drop (3 * l.i) l.initial.rows)
