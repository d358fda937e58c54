-- `history_printing::put_rows` meets its contract. The loop's invariant: the first i rows are written.
use Rattle.history_printing.proofs.PrintedRows.{Printed}
use Rattle.history_printing.proofs.put_rows.Given as goal

abbrev pub invariant-loop-i : goal.invariant-loop-i
invariant-loop-i l =
    Printed l.starts l.owners l.range l.q l.place l.initial.out l.out l.last l.i
