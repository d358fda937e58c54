-- The call for the owner of a point: what it leaves, from what the calls beneath it answered.
--
-- found_state (an owner looked up in the arrays of a valid pool is the state's)
-- owned_told (what the lookup answers)
use Rattle.std.specs.Prelude.{Result}
use mathlib.Core.Path.{◌≡◌, sym, ap, ◌∙◌}
use mathlib.Core.List.{List}
use Prim.Native.Nat.{ℕ, ◌≤◌}
use native.Mathlib.Omega.{arith}
use lib.ListN.{length}
use Rattle.refusals.specs.declared.Refusal.{Refusal}
use Rattle.slicing.specs.Runs.{owner_at}
use Rattle.slicing_core.proofs.Rows.{length_device_rows}
use Rattle.pools.specs.Pools.{state_of, ValidPool}
use Rattle.pools.specs.declared.Pool.{Pool}
use Rattle.pools.specs.declared.PoolAnswer.{PoolAnswer}
use Rattle.lookups.specs.Promises.{owner_answer, LookedIn}
use Rattle.lookups.proofs.Promised.{looked_in}
use Rattle.lookup_numbers.specs.Told.{owner_told}
use Rattle.images.specs.Promises.{ReadAs}
use Rattle.images.proofs.OnImages.{on_image_accepted, on_image_valid}
use Rattle.answers.specs.Answers.{Answer}
use Rattle.image_lookups.specs.Promises.{Owned}

-- what a lookup on the arrays of a pool answers
abbrev pub Found : Pool → ℕ → Result ℕ Refusal → Type 0
Found p = LookedIn p.starts p.owners p.intervals p.devices p.range

-- the devices of a pool are those of its state
pub found_state : (p : Pool) (x : ℕ) (w : Result ℕ Refusal) → ValidPool p → Found p x w
    → w ≡ owner_answer (state_of p).range (length (state_of p).devices) x (owner_at (state_of p).table x)
unfolding state_of
found_state p x w v h =
    (looked_in p v x w h).valid v
    ∙ ap (λ (n : ℕ). owner_answer p.range n x (owner_at (state_of p).table x)) (sym (length_device_rows p.ids p.capacities 0 p.devices))

module _ (xs : List ℕ) (x : ℕ) (a : List ℕ) where
  module _ (made : PoolAnswer) (i : ReadAs xs made) (l : 1 ≤ length a) where
    pub owned_told : (w : Result ℕ Refusal) (r : Answer) → made.refusal ≤ 0 → Found made.pool x w → r ≡ owner_told a w → Owned xs x a r
    owned_told w r z h e = record {
      short = λ k. absurd (omega (arith, l, k));
      room = λ k. on_image_accepted xs _ _ r made i z (e ∙ ap (owner_told a) (found_state made.pool x w (on_image_valid xs made i z) h));
    }
