-- `lookup_numbers::copies::put_owners` meets its contract. The loop's invariant: the first i owners are put, and the rest is as it was.
use mathlib.Core.Path.{◌≡◌}
use lib.Seq.{paste}
use Rattle.lookup_numbers.proofs.copies.put_owners.Given as goal

abbrev pub invariant-loop-i : goal.invariant-loop-i
invariant-loop-i l =
    l.row ≡ paste l.initial.row 1 l.owners l.i
