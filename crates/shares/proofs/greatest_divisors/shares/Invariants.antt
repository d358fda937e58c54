-- `shares::greatest_divisors::shares` meets its contract. The loop's invariant: the points were dealt by the rule, and the tree is their tournament.
use Prim.Native.Nat.{◌-◌}
use Rattle.shares.specs.GreatestDivisors.{Dealt}
use Rattle.shares.specs.Tournament.{Tournament}
use Rattle.shares.proofs.greatest_divisors.shares.Given as goal

abbrev pub invariant-loop : goal.invariant-loop
invariant-loop l =
    Dealt l.range l.ids l.capacities l.n l.points (l.left - l.counter) × Tournament l.points l.capacities l.n l.tree
