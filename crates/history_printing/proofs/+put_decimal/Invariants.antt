-- `history_printing::put_decimal` ends: it calls itself for a tenth of the number.
use Rattle.history_printing.proofs.+put_decimal.Given as goal

abbrev pub decreases-put_decimal : goal.decreases-put_decimal
decreases-put_decimal l = l.n
