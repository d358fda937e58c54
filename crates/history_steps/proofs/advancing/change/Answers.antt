-- `history_steps::advancing::change` meets its contract: where the plan of the change is accepted, the table is renewed.
use mathlib.Core.Path.{◌≡◌}
use native.Mathlib.Omega.{arith}
use Rattle.std.specs.Prelude.{Err}
use Rattle.history_steps.proofs.AdvancedLines.{refused_before, places_length, planned_few, advanced_planned, advanced_declined}
use Rattle.history_steps.proofs.advancing.change.Goals as goal

pub returns-then-not-begun-clause-advanced : goal.returns-then-not-begun-clause-advanced
returns-then-not-begun-clause-advanced c = refused_before _ c.args.call _ c.if-not-begun.true

pub returns-in_err-made-clause-advanced : goal.returns-in_err-made-clause-advanced
returns-in_err-made-clause-advanced c =
    let a = c.args in
    let same : c.from_residual.result ≡ Err c.in_err-made.field-0.0 = grind arith in
    rw same (advanced_declined a.pool a.table.now a.call _ places_length a.begun c.if-not-begun.false c.in_err-made.ensures.planned)

pub renew-requires : goal.renew-requires
renew-requires c = (planned_few c.in_ok-made.ensures.planned, c.requires.0.table_size)

pub returns-clause-advanced : goal.returns-clause-advanced
returns-clause-advanced c =
    let a = c.args in
    advanced_planned a.pool a.table.now a.call _ places_length a.begun c.if-not-begun.false c.in_ok-made.ensures.planned c.renew.ensures.q_after c.renew.ensures.table_len
