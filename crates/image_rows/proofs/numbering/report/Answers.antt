-- `image_rows::numbering::report` meets its contract.
use borrow.Author.Rules.{rules}
use mathlib.Core.Path.{ap, ◌∙◌}
use mir.Syntax.{w64}
use mir.Val.{SFits}
use mir.ValLaws.{to_z-of_z}
use Rattle.valid_pools.specs.Promises.{report_reply}
use Rattle.image_rows.proofs.ToldPools.{measured_on, reported_found}
use Rattle.image_rows.proofs.numbering.report.Goals as goal

pub report_of-requires : goal.report_of-requires
report_of-requires c =
    measured_on c.args.image.now c.args.id c.find_on.result c.find_on.ensures

pub returns : goal.returns
returns c =
    let told = c.report_reply-number.result in
    let fits : SFits w64 told.1.difference = search rules in
    let a = c.args in
    rw (to_z-of_z w64 told.1.difference fits)
    (reported_found a.image.now a.id a.answer.now a.difference.now c.if-answer-lt2.false c.find_on.result c.find_on.ensures
    (record { number = told.0; whole = told.1.whole; remainder = told.1.remainder; difference = told.1.difference })
    (c.report_reply-number.ensures ∙ ap report_reply c.report_of.ensures) _ c.put.ensures)
