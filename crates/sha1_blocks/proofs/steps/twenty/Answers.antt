-- `sha1_blocks::steps::twenty` meets its contract. The loop's invariant: `v` are the variables after the rounds from `first` to t - 1.
use Rattle.std.proofs.Common.{◌≡◌, suc, ◌+◌, ◌-◌, arith}
use Rattle.sha1_blocks.specs.Fips180.{rounds}
use Rattle.sha1_blocks.proofs.steps.twenty.Goals as goal

pub loop-t-init : goal.loop-t-init
unfolding rounds
loop-t-init c =
    let e : c.args.first - c.args.first ≡ 0 = omega arith in rw e

pub loop-t-preserved : goal.loop-t-preserved
unfolding rounds
loop-t-preserved c =
    let turn = c.loop-t in
    let first = c.args.first in
    let n : turn.t + 1 - first ≡ suc (turn.t - first) = omega arith in
    let p : first + (turn.t - first) ≡ turn.t = omega arith in
    rw (n, p, ← turn.invariant) c.round-v.ensures

pub returns : goal.returns
returns c =
    let e : c.loop-t.t - c.args.first ≡ 20 = omega arith in rw e at c.loop-t.invariant
