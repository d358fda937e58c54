-- `lookup_core::probe_point` meets its contract: the word is below 2 ^ 32, so its product with the range fits 64 bits.
use mathlib.Core.Path.{ap, ◌∙◌}
use native.Mathlib.Nat.{mul-le-mul_left}
use native.Mathlib.Omega.{arith}
use Rattle.lookup_core.specs.Probes.{point_of, scaled}
use Rattle.lookup_core.proofs.probe_point.Goals as goal

pub overflow_mul-result : goal.overflow_mul-result
overflow_mul-result c =
    omega (arith, mul-le-mul_left c.from-h.result c.requires, c.first_word.type_inv)

pub returns : goal.returns
unfolding point_of
returns c =
    ap (λ h. scaled h c.args.range) (c.from-h.ensures ∙ c.first_word.ensures)
