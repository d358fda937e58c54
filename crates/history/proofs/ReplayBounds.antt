-- How large the numbers are that a line gives.
--
--   moved_most, count_most     a change of a valid pool moves at most R points, in at most as many moves as the list has places
--   Small r                    at most 2^32 points are moved, in at most 4,096 moves
--   applied_small              a line on a valid pool
use mathlib.Core.Path.{◌≡◌, refl}
use mathlib.Core.Bool.{Bool, true, false, cond}
use mathlib.Core.List.{List, [], ◌∷◌}
use Prim.Native.Nat.{ℕ, zero, suc, ◌≤◌}
use native.Mathlib.Omega.{arith}
use lib.ListN.{length, length-replicate}
use Rattle.std.specs.Prelude.{Ok, Err}
use Rattle.std.specs.Prelude as Prelude
use Rattle.refusals.specs.declared.Refusal.{Refusal}
use Rattle.slicing.specs.Changes.{State, Change, add, remove, resize, change}
use Rattle.slicing.specs.Claims.{Claim, written}
use Rattle.slicing.specs.Ledger.{Ledger, opened, feed}
use Rattle.slicing.specs.Runs.{Run, ◌of◌, total, intervals}
use Rattle.slicing.specs.ShareRule.{shares}
use Rattle.slicing.specs.SixSteps.{Move, move, reductions}
use Rattle.slicing.specs.Validity.{Valid}
use Rattle.slicing.proofs.Claims.{claim_valid}
use Rattle.slicing.proofs.ShareRule.{total_shares}
use Rattle.history_lines.specs.declared.lines.HistoryLine.{HistoryLine}
use Rattle.history_lines.specs.declared.lines.HistoryLine.TheVariants.{Range, Add, Remove, Resize}
use Rattle.history_steps.specs.Steps.{Reading, Result, places, changed, applied}

reductions_most : (has due : List (Run ℕ)) → reductions has due ≤ total has
reductions_most [] due = omega arith
reductions_most ((n of d) ∷ has) due = omega (arith, reductions_most has due)

module _ (s : State) (v : Valid s) (lent : List Move) (k : Change) where
  abbrev ledger : Ledger
  ledger = opened s.devices (intervals 0 s.table)

  claim : Claim s.range s.limit s ledger (feed ledger k (change s lent k).number (written (change s lent k))) lent (change s lent k)
  claim = claim_valid s v lent k

  pub count_most : (change s lent k).count ≤ length lent
  count_most = claim.fits

  pub moved_most : (change s lent k).moved ≤ s.range
  moved_most = go (change s lent k).number refl
    where
      found : (n : ℕ) → length s.devices ≡ n → (change s lent k).number ≡ 0 → (change s lent k).moved ≤ s.range
      found zero l e = omega (arith, (claim.first e l).0)
      found (suc n) l e =
          let due : List (Run ℕ) = shares s.range (feed ledger k (change s lent k).number (written (change s lent k))).entries in
          omega (
            arith,
            (claim.movement e (omega arith)).reduced,
            reductions_most (shares s.range s.devices) due,
            total_shares s.range s.devices v.rising (omega arith),
          )

      go : (n : ℕ) → (change s lent k).number ≡ n → (change s lent k).moved ≤ s.range
      go zero e = found (length s.devices) refl e
      go (suc n) e = omega (arith, (claim.refused (omega arith)).moved)

pub record Small (r : Result) : Type 0 where
  pub moved : r.moved ≤ 4294967296
  pub count : r.count ≤ 4096

small_either : (b : Bool) (r q : Result) → Small r → Small q → Small (cond b r q)
small_either true r q f g = f
small_either false r q f g = g

none_small : {r : Result} → r.moved ≡ 0 → r.count ≡ 0 → Small r
none_small e f = record { moved = omega arith; count = omega arith }

module _ (h : Reading) (v : Valid h.pool) where
  changed_small : (k : Change) → Small (changed h k)
  changed_small k =
      small_either h.begun _ _
      (record {
        moved = omega (arith, moved_most h.pool v places k, v.most);
        count = omega (arith, count_most h.pool v places k, length-replicate 4096 (move 0 0 0 0));
      })
      (none_small refl refl)

  pub applied_small : (l : Prelude.Result HistoryLine Refusal) → Small (applied h l)
  applied_small (Err e) = none_small refl refl
  applied_small (Ok (Range R M)) = small_either h.begun _ _ (none_small refl refl) (none_small refl refl)
  applied_small (Ok (Add d c)) = changed_small (add d c)
  applied_small (Ok (Remove d)) = changed_small (remove d)
  applied_small (Ok (Resize d c)) = changed_small (resize d c)
