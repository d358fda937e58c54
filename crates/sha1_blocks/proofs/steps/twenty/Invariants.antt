-- `sha1_blocks::steps::twenty` meets its contract. The loop's invariant: `v` are the variables after the rounds from `first` to t - 1.
use Rattle.std.proofs.Common.{◌≡◌, ◌-◌}
use Rattle.sha1_blocks.specs.Fips180.{rounds}
use Rattle.sha1_blocks.proofs.steps.twenty.Given as goal

abbrev pub invariant-loop-t : goal.invariant-loop-t
invariant-loop-t l =
    l.v ≡ rounds l.w l.initial.v l.first (l.t - l.first)
