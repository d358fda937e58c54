-- `history_printing::end_of` meets its contract.
use mathlib.Core.Path.{sym, ap, ◌∙◌}
use mathlib.Core.Bool.{cond}
use Prim.Native.Nat.{◌+◌}
use borrow.Author.Tests.{lt-ltb, le-ltb}
use Rattle.slicing_core.specs.Rows.{at}
use Rattle.history_printing.proofs.end_of.Goals as goal

pub returns-then-i-q : goal.returns-then-i-q
returns-then-i-q c =
    let a = c.args in
    let e = lt-ltb (a.i + 1) a.q c.if-i-q.true in
    c.from.ensures ∙ sym (ap (λ t. cond t (at a.starts.now (a.i + 1)) a.range) e)

pub returns : goal.returns
returns c =
    let a = c.args in
    let e = le-ltb (a.i + 1) a.q c.if-i-q.false in
    sym (ap (λ t. cond t (at a.starts.now (a.i + 1)) a.range) e)
