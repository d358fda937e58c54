-- The claim about one outcome of the rules, of every valid pool and of the ledger that its intervals begin. specs/Claims.antt has the statement.
--
--   valid_fresh         a fresh pool is valid
--   agreement_opened    a valid pool agrees with the ledger that begins with its devices and the owners that its intervals give
--   claim_valid         the claim about a change of it
use mathlib.Core.Path.{refl, sym, ap, ◌∙◌}
use mathlib.Core.List.{List}
use Prim.Native.Nat.{ℕ, ◌≤◌}
use native.Mathlib.Omega.{arith}
use native.Mathlib.Nat.{sub-zero}
use Rattle.slicing.specs.Changes.{State, fresh, Change, change}
use Rattle.slicing.specs.Claims.{Agreement, Claim, written}
use Rattle.slicing.specs.Ledger.{opened, owner_by, feed}
use Rattle.slicing.specs.Limits.{max_range, max_limit}
use Rattle.slicing.specs.Runs.{owner_at, intervals}
use Rattle.slicing.specs.SixSteps.{Move}
use Rattle.slicing.specs.Validity.{Valid}
use Rattle.slicing.proofs.Changes.{agreement_valid, claim_change}
use Rattle.slicing.proofs.Intervals.{owner_by_intervals}

pub valid_fresh : (R M : ℕ) → 1 ≤ R → R ≤ max_range → 1 ≤ M → M ≤ max_limit → Valid (fresh R M)
valid_fresh R M some most room room_most = record {
  some = some;
  most = most;
  room = room;
  room_most = room_most;
  few = omega arith;
  rising = tt;
  fits = omega arith;
  coalesced = tt;
  empty = λ z. refl;
  covers = λ z. absurd (omega arith);
  held = λ z. absurd (omega arith);
}

module _ (s : State) (v : Valid s) where
  pub agreement_opened : Agreement s.range s.limit s (opened s.devices (intervals 0 s.table))
  agreement_opened =
      agreement_valid s v (owner_by (intervals 0 s.table))
      (λ n x l. sym (owner_by_intervals 0 x s.table (omega arith) (omega (arith, v.covers n)) ∙ ap (owner_at s.table) (sub-zero x)))

  pub claim_valid : (lent : List Move) (k : Change)
      → let b = opened s.devices (intervals 0 s.table) in
      let o = change s lent k in Claim s.range s.limit s b (feed b k o.number (written o)) lent o
  claim_valid lent k = claim_change s.range s.limit s (opened s.devices (intervals 0 s.table)) v agreement_opened lent k
