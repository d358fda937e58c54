-- `largest_remainder::remainders` meets its contract. The loop's invariant: what the rounding of the rows passed leaves is stored.
use Rattle.largest_remainder.specs.Remainders.{Remained}
use Rattle.largest_remainder.proofs.remainders.Given as goal

abbrev pub invariant-loop-i : goal.invariant-loop-i
invariant-loop-i l =
    Remained l.range l.capacities l.i l.c l.into
