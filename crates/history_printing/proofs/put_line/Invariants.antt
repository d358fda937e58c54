-- `history_printing::put_line` meets its contract. The loop's invariant: the numbers from i on, put behind, make the line.
use Rattle.history_printing.proofs.PutBehind.{Line}
use Rattle.history_printing.proofs.put_line.Given as goal

abbrev pub invariant-loop-i : goal.invariant-loop-i
invariant-loop-i l =
    Line l.initial.out l.place l.numbers l.out l.last l.i
