-- `valid_pools::finding::find_in` meets its contract: a pool that is open is valid, and its state is the pool's.
use mathlib.Core.Path.{ap, ◌∙◌, refl}
use Rattle.slicing.specs.Changes.{State}
use Rattle.valid_pools.specs.Finding.{found_of, found, invalid}
use Rattle.valid_pools.proofs.finding.find_in.Goals as goal

pub returns-in_default : goal.returns-in_default
returns-in_default c =
    invalid c.in_default.ensures.valid refl

pub find_device-requires : goal.find_device-requires
find_device-requires c =
    c.in-Some.ensures.opened.0

pub returns : goal.returns
returns c =
    found c.in-Some.ensures.valid (record { same = c.find_device.ensures.same ∙ ap (λ (s : State). found_of s c.args.id) c.in-Some.ensures.opened.1 })
