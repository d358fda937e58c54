-- `filling::fill` meets its contract. The loop's invariant: the turns written and the filling of what is left are all the turns.
use native.Mathlib.Omega.{arith}
use Rattle.filling.proofs.FillSteps.{filling_none, filling_turn, filling_empty, filling_kept, filling_more, filling_whole, filling_part, filling_end}
use Rattle.filling.proofs.fill.Goals as goal

pub loop-i-init : goal.loop-i-init
loop-i-init c =
    let a = c.requires.n_bound in
    let b = c.requires.p_bound in
    let l = c.requires.pieces_len in
    filling_none _ _ _ _ _ l.0 l.1 l.2 a.2 a.3 b.0 b.1

pub loop-i-preserved-then-piece-lt-TAKEN : goal.loop-i-preserved-then-piece-lt-TAKEN
loop-i-preserved-then-piece-lt-TAKEN c =
    filling_kept c.loop-i.invariant c.loop-i-test.true c.if-piece-lt-TAKEN.true c.push-count.ensures

pub loop-i-preserved-then-size-eq0 : goal.loop-i-preserved-then-size-eq0
loop-i-preserved-then-size-eq0 c =
    filling_empty c.loop-i.invariant c.loop-i-test.true c.if-size-eq0.true

pub bounds-queue-j : goal.bounds-queue-j
bounds-queue-j c =
    omega (arith, filling_more c.loop-i.invariant c.loop-i-test.true c.if-piece-lt-TAKEN.false c.if-size-eq0.false)

pub push-count-requires-then-need-size : goal.push-count-requires-then-need-size
push-count-requires-then-need-size c =
    filling_turn c.loop-i.invariant c.loop-i-test.true c.if-piece-lt-TAKEN.false (filling_more c.loop-i.invariant c.loop-i-test.true c.if-piece-lt-TAKEN.false c.if-size-eq0.false) c.requires.n_bound.1 _ (omega arith)

pub loop-i-smaller-then-need-size : goal.loop-i-smaller-then-need-size
loop-i-smaller-then-need-size c =
    omega (arith, filling_more c.loop-i.invariant c.loop-i-test.true c.if-piece-lt-TAKEN.false c.if-size-eq0.false)

pub loop-i-preserved-then-need-size : goal.loop-i-preserved-then-need-size
loop-i-preserved-then-need-size c =
    filling_whole c.loop-i.invariant c.loop-i-test.true c.if-piece-lt-TAKEN.false (filling_more c.loop-i.invariant c.loop-i-test.true c.if-piece-lt-TAKEN.false c.if-size-eq0.false) (omega arith) c.if-need-size.true
    c.push-count-then-need-size.ensures

pub push-count-requires-else-need-size : goal.push-count-requires-else-need-size
push-count-requires-else-need-size c =
    filling_turn c.loop-i.invariant c.loop-i-test.true c.if-piece-lt-TAKEN.false (filling_more c.loop-i.invariant c.loop-i-test.true c.if-piece-lt-TAKEN.false c.if-size-eq0.false) c.requires.n_bound.1 _ (omega arith)

pub loop-i-preserved : goal.loop-i-preserved
loop-i-preserved c =
    filling_part c.loop-i.invariant c.loop-i-test.true c.if-piece-lt-TAKEN.false (filling_more c.loop-i.invariant c.loop-i-test.true c.if-piece-lt-TAKEN.false c.if-size-eq0.false) c.requires.n_bound.0 c.if-need-size.false
    c.push-count-else-need-size.ensures

pub returns-clause-turns : goal.returns-clause-turns
returns-clause-turns c =
    filling_end c.loop-i.invariant c.loop-i-test.false
