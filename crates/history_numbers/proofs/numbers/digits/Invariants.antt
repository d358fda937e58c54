-- `history_numbers::numbers::digits` meets its contract. The loop's invariant: the bytes before the index are digits and spell `value`.
use Rattle.history_numbers.proofs.DigitWords.{Spelling}
use Rattle.history_numbers.proofs.numbers.digits.Given as goal

abbrev pub invariant-loop-byte : goal.invariant-loop-byte
invariant-loop-byte l =
    Spelling l.word l.value l.byte-index
