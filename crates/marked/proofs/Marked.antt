-- The examples of document 01, 'Marked for proof', hold: each by computing. The shares of K5 and K11 are computed with the literal rule, the
-- changes of K6 to K11 with its executable form.
use mathlib.Core.Path.{refl}
use Rattle.history_numbers.specs.Text.{capacity_in}
use Rattle.slicing.specs.ShareRule.{shares}
use Rattle.slicing.specs.SixSteps.{turns}
use Rattle.slicing.proofs.Cases.{after_computed, next_computed}
use Rattle.slicing.proofs.Computing.{computed}
use Rattle.marked.specs.Marked.{Marked}

pub marked : Marked
unfolding capacity_in turns shares computed
marked = record {
  K1 = refl;
  K2 = (refl, refl);
  K3 = refl;
  K4 = (refl, refl);
  K5 = refl;
  K6 = rw after_computed refl;
  K7 = rw next_computed refl;
  K8 = rw next_computed refl;
  K9 = (rw next_computed refl, rw next_computed refl);
  K10 = (rw next_computed refl, rw next_computed refl, rw next_computed refl, rw next_computed refl);
  K11 = (refl, refl, rw next_computed refl, rw next_computed refl);
  K12 = (refl, refl);
}
