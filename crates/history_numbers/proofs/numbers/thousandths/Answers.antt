-- `history_numbers::numbers::thousandths` meets its contract: the word is cut at its first point, and what stands behind has none where it is all digits.
use mathlib.Core.Path.{◌≡◌, sym, ◌∙◌}
use native.Mathlib.Omega.{arith}
use Rattle.std.specs.Prelude.{None}
use Rattle.history_numbers.proofs.NumberWords.{capacity_none, capacity_whole, capacity_rest, capacity_all}
use Rattle.history_numbers.proofs.numbers.thousandths.Goals as goal

pub returns-in_err-whole : goal.returns-in_err-whole
returns-in_err-whole c =
    let same : c.from_residual.result ≡ None = grind arith in
    rw same (capacity_none c.args.word.now c.find-end.result c.find-end.ensures (sym c.number.ensures.value ∙ c.in_err-whole.was))

pub returns-then-end-word : goal.returns-then-end-word
returns-then-end-word c =
    capacity_whole c.args.word.now c.find-end.result c.find-end.ensures _ (sym c.number.ensures.value ∙ c.in_ok-whole.was) c.if-end-word.true

pub returns-in_err-rest : goal.returns-in_err-rest
returns-in_err-rest c =
    let same : c.from_residual-in_err-rest.result ≡ None = grind arith in
    rw same
    (capacity_rest c.args.word.now c.find-end.result c.find-end.ensures c.if-end-word.false _ (sym c.number.ensures.value ∙ c.in_ok-whole.was)
    (sym c.fraction.ensures.value ∙ c.in_err-rest.was))

pub returns : goal.returns
returns c =
    capacity_all c.args.word.now c.find-end.result c.find-end.ensures c.if-end-word.false _ (sym c.number.ensures.value ∙ c.in_ok-whole.was)
    _ (sym c.fraction.ensures.value ∙ c.in_ok-rest.was)
