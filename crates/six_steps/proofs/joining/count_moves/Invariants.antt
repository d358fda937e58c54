-- `six_steps::joining::count_moves` meets its contract. The loop's invariant: of the turns passed those that change their owner are counted.
use mathlib.Core.Path.{◌≡◌}
use lib.ListN.{take}
use Rattle.std.specs.List.{count_by}
use Rattle.six_steps.proofs.CountSteps.{moved}
use Rattle.six_steps.proofs.joining.count_moves.Given as goal

abbrev pub invariant-loop-i : goal.invariant-loop-i
invariant-loop-i l =
    l.count ≡ count_by moved (take l.i l.turns)
