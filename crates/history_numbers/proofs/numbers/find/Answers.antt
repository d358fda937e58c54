-- `history_numbers::numbers::find` meets its contract: `position` answers the first such byte, or that there is none.
use Rattle.std.proofs.Common.{eqb, rules, tests}
use Rattle.std.proofs.lemmas.Iterator.{YieldsList-from_slice}
use Rattle.std.proofs.lemmas.Iterator.Search.{position_from_yields_List}
use Rattle.history_numbers.proofs.Splitting.{cut_found}
use Rattle.history_numbers.proofs.numbers.find.Goals as goal

pub returns : goal.returns
returns c =
    let a = c.args in
    let found = position_from_yields_List (λ b. eqb b a.byte) _ _ c.position.result c.position.ensures.ran (YieldsList-from_slice _ c.iter.ensures.rest) (λ x b q k. search (rules, tests)) in
    cut_found a.byte a.text.now c.position.result c.unwrap_or.result found c.unwrap_or.ensures
