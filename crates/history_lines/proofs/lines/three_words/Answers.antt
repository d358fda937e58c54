-- `history_lines::lines::three_words` meets its contract: a first word that is none of the three is no shape.
use Rattle.history_lines.proofs.LineShapes.{same_told, three_none}
use Rattle.history_lines.proofs.lines.three_words.Goals as goal

pub returns : goal.returns
returns c =
    let a = c.args in
    three_none a.key.now a.first.now a.second.now (same_told _ _ c.eq.ensures c.as_slice.ensures c.if-eq.false)
    (same_told _ _ c.eq-2.ensures c.as_slice-2.ensures c.if-eq-2.false) (same_told _ _ c.eq-3.ensures c.as_slice-3.ensures c.if-eq-3.false)
