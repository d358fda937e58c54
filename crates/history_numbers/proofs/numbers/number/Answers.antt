-- `history_numbers::numbers::number` meets its contract: the tests are those of `is_number`, in their order.
use mathlib.Core.Path.{◌≡◌, ◌∙◌}
use mathlib.Core.Bool.{false}
use native.Mathlib.Omega.{arith}
use Rattle.history_numbers.specs.Text.{leading_zero}
use Rattle.history_numbers.proofs.NumberWords.{leading_other, leading_single, number_short, number_long, number_led, number_digits}
use Rattle.history_numbers.proofs.numbers.number.Goals as goal
use Rattle.history_numbers.proofs.numbers.number.Goals.{then-n-lt1-via-then-n-lt1, then-n-lt1-via-else-n-lt1+then-n-gt10, else-n-gt1-via-then-n-gt1+else-word-eq48, else-n-gt1-via-else-n-gt1}

pub returns-then-n-lt1-clause-value : goal.returns-then-n-lt1-clause-value
returns-then-n-lt1-clause-value c =
    let w = c.args.word.now in elim c.then-n-lt1.branch [
      | then-n-lt1-via-then-n-lt1 p ↦ number_short w p.if-n-lt1.true
      | then-n-lt1-via-else-n-lt1+then-n-gt10 p ↦ number_long w (omega arith)
    ]

pub returns-then-word-eq48-clause-value : goal.returns-then-word-eq48-clause-value
returns-then-word-eq48-clause-value c = number_led c.args.word.now c.if-n-gt1.true (omega arith)

pub returns-clause-value : goal.returns-clause-value
returns-clause-value c =
    let w = c.args.word.now in
    let z : leading_zero w ≡ false = elim c.else-n-gt1.branch [
      | else-n-gt1-via-then-n-gt1+else-word-eq48 p ↦ leading_other w p.if-n-gt1.true p.if-word-eq48.false
      | else-n-gt1-via-else-n-gt1 p ↦ leading_single w p.if-n-gt1.false
    ] in
    c.digits.ensures.value ∙ number_digits w c.if-n-lt1.false c.if-n-gt10.false z
