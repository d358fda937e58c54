-- `demand3::run` meets its contract. The loop's invariant: the pool is the one after the calls that all numbers but those left ask for.
use mathlib.Core.Path.{◌≡◌}
use Rattle.std.specs.Slice.Iter.{chunks_exact_rest, chunks_exact_size}
use Rattle.demand3.proofs.Runs.{Running}
use Rattle.demand3.proofs.run.Given as goal

abbrev pub invariant-loop-numbers : goal.invariant-loop-numbers
invariant-loop-numbers l =
    (chunks_exact_size l.numbers-iterator ≡ 3) × Running l.initial.last l.calls l.places (chunks_exact_rest l.numbers-iterator) l.last
