-- `sha1_blocks::steps::extend` meets its contract. The loop's invariant: the words `first` to t - 1 are formed in place.
use Rattle.std.proofs.Common.{◌≡◌, ◌-◌, length}
use Rattle.sha1_blocks.specs.InPlace.{extended}
use Rattle.sha1_blocks.proofs.steps.extend.Given as goal

abbrev pub invariant-loop-t : goal.invariant-loop-t
invariant-loop-t l =
    (length l.w ≡ 80) × (l.w ≡ extended l.initial.w l.first (l.t - l.first))
