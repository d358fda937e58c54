-- From the plan of a change to the promise of the call.
--
-- an outcome: length_written
-- Changed: changed_invalid, changed_refused, changed_planned; moves_fit (the moves of the plan fit the lent list)
use mathlib.Core.Path.{◌≡◌, refl, sym, ap, ◌∙◌, subst}
use mathlib.Core.List.{List, ◌++◌, map}
use Prim.Native.Nat.{ℕ, ◌≤◌}
use native.Mathlib.Omega.{arith}
use lib.ListN.{length, drop, length-map}
use Rattle.refusals.specs.Replies.{number}
use Rattle.refusals.specs.declared.Refusal.{Refusal}
use Rattle.slicing.specs.Changes.{State, Change, Outcome, change}
use Rattle.slicing.specs.Claims.{Claim, written}
use Rattle.slicing.specs.Ledger.{Ledger, opened, feed}
use Rattle.slicing.specs.Runs.{intervals}
use Rattle.slicing.specs.SixSteps as Rules
use Rattle.slicing.specs.SixSteps.{moves_from}
use Rattle.slicing.specs.Validity.{Valid}
use Rattle.slicing.proofs.Claims.{claim_valid}
use Rattle.slicing_core.specs.Rows.{at}
use Rattle.packed_runs.specs.Words.{turns_of}
use Rattle.six_steps.proofs.Renaming.{move_as}
use Rattle.opened.specs.OpenPools.{state_in}
use Rattle.opened.specs.declared.Opened.{Opened}
use Rattle.plans.specs.Plans.{Accepted, Declined}
use Rattle.plans.proofs.Planning.{number_some}
use Rattle.plans.specs.declared.Plan.{Plan}
use Rattle.pools.specs.Pools.{state_of, pool_of, ValidPool}
use Rattle.pools.specs.declared.Pool.{Pool}
use Rattle.placement.specs.Promises.{move_of, row_of, Changed}
use Rattle.placement.specs.declared.ChangeAnswer.{ChangeAnswer}
use Rattle.placement.specs.declared.Move.{Move}

-- the moves of an outcome are as many as it says, and fit the list
module _ (s : State) (v : Valid s) (lent : List Rules.Move) (k : Change) where
  abbrev before : Ledger
  before = opened s.devices (intervals 0 s.table)

  claim : Claim s.range s.limit s before (feed before k (change s lent k).number (written (change s lent k))) lent (change s lent k)
  claim = claim_valid s v lent k

  count_fits : (change s lent k).count ≤ length lent
  count_fits = claim.fits

  pub length_written : length (written (change s lent k)) ≡ (change s lent k).count
  length_written = claim.counted

-- the answer to a refused change
abbrev refusal : Pool → ℕ → ChangeAnswer
refusal p n = record { refusal = n; moved = 0; count = 0; pool = p }

module _ (p : Pool) (lent : List Move) (k : Change) where
  -- the list as the rules' moves
  abbrev as_moves : List Rules.Move
  as_moves = map move_of lent

  abbrev outcome : Outcome
  outcome = change (state_of p) as_moves k

  as_many : length as_moves ≡ length lent
  as_many = length-map lent move_of

  pub changed_invalid : (ValidPool p → ⊥) → Changed p lent k (refusal p 2) lent
  changed_invalid i = record {
    valid = λ v. absurd (i v);
    invalid = λ j. record { number = refl; moved = refl; count = refl; pool = refl; list = refl };
  }

  -- a change of the valid pool, opened as o
  module _ (v : ValidPool p) (o : Opened) (table : List ℕ) (same : state_in o table ≡ state_of p) where
    pub changed_refused : {x : Refusal} {r : ChangeAnswer} → r ≡ refusal p (number x) → Declined (λ l. change (state_in o table) l k) (length lent) x
        → Changed p lent k r lent
    changed_refused {x} told declined = rw told (record {
      valid = λ w.
          let h : Declined (λ l. change (state_of p) l k) (length lent) x = subst (λ (t : State). Declined (λ l. change t l k) (length lent) x) same declined in
          let u = (claim (state_of p) v.valid as_moves k).refused (omega (arith, h.number as_moves as_many, number_some x)) in
          record {
            number = sym (h.number as_moves as_many);
            moved = sym u.moved;
            count = sym u.count;
            pool = sym (ap pool_of u.state ∙ v.same);
            list = rw u.count;
          };
      invalid = λ i. absurd (i v);
    })

    -- worked out as the plan r
    module _ {r : Plan} {turns next : List ℕ} (planned : Accepted (λ l. change (state_in o table) l k) (length lent) r turns next) where
      h : Accepted (λ l. change (state_of p) l k) (length lent) r turns next
      h = subst (λ (t : State). Accepted (λ l. change t l k) (length lent) r turns next) same planned

      abbrev moves : List Rules.Move
      moves = moves_from 0 (turns_of turns 0 r.turns)

      abbrev named : List Rules.Move
      named = map (move_as (at r.names)) moves

      length_moves : length moves ≡ outcome.count
      length_moves =
          sym (length-map moves (move_as (at r.names))) ∙ ap length (h.moves as_moves as_many) ∙ length_written (state_of p) v.valid as_moves k

      pub moves_fit : length moves ≤ length lent
      moves_fit = omega (arith, length_moves, count_fits (state_of p) v.valid as_moves k, as_many)

      pub changed_planned : {after : List Move} → after ≡ map row_of named ++ drop (length moves) lent
          → Changed p lent k (record { refusal = 0; moved = r.moved; count = r.count; pool = pool_of (state_in r.after next) }) after
      changed_planned written_so = record {
        valid = λ w. record {
          number = sym (h.number as_moves as_many);
          moved = h.moved as_moves as_many;
          count = h.count as_moves as_many;
          pool = ap pool_of (h.state as_moves as_many);
          list =
              written_so ∙ ap (λ n. map row_of named ++ drop n lent) length_moves
              ∙ ap (λ ms. map row_of ms ++ drop outcome.count lent) (h.moves as_moves as_many);
        };
        invalid = λ i. absurd (i v);
      }
