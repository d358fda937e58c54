-- `six_steps::joining::count_moves` meets its contract. The loop's invariant: of the turns passed those that change their owner are counted.
use mathlib.Core.Path.{◌≡◌, ◌∙◌}
use native.Mathlib.Omega.{arith}
use Rattle.six_steps.proofs.CountSteps.{count_turns}
use Rattle.six_steps.proofs.joining.count_moves.Goals as goal

pub returns : goal.returns
returns c =
    let all : c.loop-i.i ≡ c.args.t = omega (arith, c.loop-i-test.false) in
    (rw all at c.loop-i.invariant) ∙ count_turns c.args.turns.now c.args.t (omega arith)
