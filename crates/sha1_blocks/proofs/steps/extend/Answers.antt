-- `sha1_blocks::steps::extend` meets its contract. The loop's invariant: the words `first` to t - 1 are formed in place.
use Rattle.std.proofs.Common.{◌≡◌, suc, ◌+◌, ◌-◌, ◌∙◌, arith, length-set}
use Rattle.sha1_blocks.specs.InPlace.{extended}
use Rattle.sha1_blocks.proofs.steps.extend.Goals as goal

pub loop-t-init : goal.loop-t-init
unfolding extended
loop-t-init c =
    let e : c.args.first - c.args.first ≡ 0 = omega arith in (c.requires.0, rw e)

pub loop-t-preserved : goal.loop-t-preserved
unfolding extended
loop-t-preserved c =
    let turn = c.loop-t in
    let first = c.args.first in
    let n : turn.t + 1 - first ≡ suc (turn.t - first) = omega arith in
    let p : first + (turn.t - first) ≡ turn.t = omega arith in
    (length-set turn.w turn.t _ ∙ turn.invariant.0, rw (n, p, ← turn.invariant.1, c.rotl.ensures))

pub returns : goal.returns
returns c =
    let e : c.loop-t.t - c.args.first ≡ 16 = omega arith in record { words = rw e at c.loop-t.invariant.1; eighty = c.loop-t.invariant.0 }
