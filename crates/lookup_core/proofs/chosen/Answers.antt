-- `lookup_core::chosen` meets its contract: `contains` tells whether `owner` is in a part, and the part is the first n.
use mathlib.Core.Path.{ap, ◌∙◌}
use native.Mathlib.Omega.{arith}
use Rattle.lookup_core.specs.Probes.{member}
use Rattle.lookup_core.proofs.ProbeSteps.{any_member}
use Rattle.lookup_core.proofs.chosen.Goals as goal

pub returns : goal.returns
returns c =
    c.contains.ensures.value ∙ any_member c.args.owner _ ∙ ap (member c.args.owner) (grind arith)
