-- `opened::devices::position` meets its contract. The loop's invariant: the place lies from `low` to `high`.
use Prim.Native.Nat.{◌-◌}
use Rattle.opened.proofs.HalvedIds.{Between}
use Rattle.opened.proofs.devices.position.Given as goal

abbrev pub invariant-loop-low : goal.invariant-loop-low
invariant-loop-low l =
    Between l.ids l.n l.id l.low l.high

abbrev pub decreases-loop-low : goal.decreases-loop-low
decreases-loop-low l =
    l.high - l.low
