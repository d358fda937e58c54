-- `test_text::lines::read_line` meets its contract. The loop's invariant: no more bytes are stored than there are places, and their number stays.
use Rattle.std.proofs.Common.{◌≡◌, ◌≤◌, length}
use Rattle.test_text.proofs.lines.read_line.Given as goal

abbrev pub invariant-loop : goal.invariant-loop
invariant-loop g l =
    (l.next.count ≤ length l.initial.line) × (length l.line ≡ length l.initial.line)
