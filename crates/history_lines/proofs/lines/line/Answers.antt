-- `history_lines::lines::line` meets its contract: the text is cut at its first spaces, and the number of words decides.
use mathlib.Core.Path.{◌∙◌}
use Rattle.history_lines.proofs.LineShapes.{same_told, line_one, line_remove, line_two, line_three, line_four, line_read}
use Rattle.history_lines.proofs.lines.line.Goals as goal

pub returns-then-end-text : goal.returns-then-end-text
returns-then-end-text c = line_read (line_one c.args.text.now c.find-end.result c.find-end.ensures c.if-end-text.true)

pub returns-then-eq : goal.returns-then-eq
returns-then-eq c =
    line_read
    (c.remove_line.ensures
    ∙ line_remove c.args.text.now c.find-end.result c.find-end.ensures c.if-end-text.false c.find-middle.result c.find-middle.ensures
    c.if-middle-rest.true (same_told _ _ c.eq.ensures c.as_slice.ensures c.if-eq.true))

pub returns-then-middle-rest : goal.returns-then-middle-rest
returns-then-middle-rest c =
    line_read
    (line_two c.args.text.now c.find-end.result c.find-end.ensures c.if-end-text.false c.find-middle.result c.find-middle.ensures
    c.if-middle-rest.true (same_told _ _ c.eq.ensures c.as_slice.ensures c.if-eq.false))

pub returns-then-find-tail : goal.returns-then-find-tail
returns-then-find-tail c =
    line_read
    (line_four c.args.text.now c.find-end.result c.find-end.ensures c.if-end-text.false c.find-middle.result c.find-middle.ensures
    c.if-middle-rest.false c.find.result c.find.ensures c.if-find-tail.true)

pub returns : goal.returns
returns c =
    line_read
    (c.three_words.ensures
    ∙ line_three c.args.text.now c.find-end.result c.find-end.ensures c.if-end-text.false c.find-middle.result c.find-middle.ensures
    c.if-middle-rest.false c.find.result c.find.ensures c.if-find-tail.false)
