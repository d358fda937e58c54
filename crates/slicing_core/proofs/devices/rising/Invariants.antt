-- `slicing_core::devices::rising` meets its contract. The loop's invariant: the rows left rise from `last` on exactly if all rows rise.
use mathlib.Core.Logic.{◌↔◌}
use Prim.Native.Nat.{◌-◌}
use Rattle.slicing.specs.Devices.{Rising}
use Rattle.slicing_core.specs.Rows.{device_rows}
use Rattle.slicing_core.proofs.devices.rising.Given as goal

abbrev pub invariant-loop-i : goal.invariant-loop-i
invariant-loop-i l =
    Rising l.last (device_rows l.ids l.capacities l.i (l.n - l.i)) ↔ Rising 0 (device_rows l.ids l.capacities 0 l.n)
