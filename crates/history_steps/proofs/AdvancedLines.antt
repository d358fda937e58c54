-- One line on an opened pool: what `advance` and its parts give is what the definition's line gives.
--
--   refused_before, refused_range   a change line before a range line, and a range line after one
--   advanced_range            a range line before any other
--   places_length             how many places the list of a change line has
--   planned_few, advanced_planned, advanced_declined   a change line, from the plan of its change, or from its refusal
use mathlib.Core.Path.{◌≡◌, refl, sym, ◌∙◌}
use mathlib.Core.Bool.{Bool, true, false}
use mathlib.Core.List.{List}
use Prim.Native.Nat.{ℕ, ◌≤◌}
use native.Mathlib.Omega.{arith}
use lib.ListN.{length, length-replicate}
use Rattle.std.specs.Prelude.{Ok, Err}
use Rattle.refusals.specs.declared.Refusal.{Refusal}
use Rattle.refusals.specs.declared.Refusal.TheVariants.{Misplaced}
use Rattle.slicing.specs.Changes.{Outcome, fresh, change}
use Rattle.slicing.specs.SixSteps.{Move, move}
use Rattle.slicing.proofs.Changes.{change_refused}
use Rattle.packed_runs.specs.Words.{runs, room}
use Rattle.opened.specs.declared.Opened.{Opened}
use Rattle.opened.specs.OpenPools.{state_in, Open}
use Rattle.opened.proofs.OpenPools.{open_intervals}
use Rattle.calls.specs.declared.Call.{Call}
use Rattle.calls.specs.declared.Call.TheVariants.{Add, Remove, Resize}
use Rattle.plans.specs.declared.Plan.{Plan}
use Rattle.plans.specs.Plans.{Planned}
use Rattle.plans.proofs.Planning.{number_some, planned_accepted, planned_declined}
use Rattle.calls.specs.Calls.{change_of}
use Rattle.history_lines.specs.declared.lines.HistoryLine.TheVariants.{Range}
use Rattle.history_steps.specs.Advances.{reading_in, changing, Advanced, refused, accepted}
use Rattle.history_steps.specs.Steps.{Reading, places, refusal, result_of, applied}
use Rattle.history_steps.proofs.OpenReadings.{state_renewed, open_renewed}

-- ---- what the definition's line gives

line_begun : (h : Reading) (call : Call) → h.begun ≡ true → applied h (Ok (changing call)) ≡ result_of (change h.pool places (change_of call))
line_begun h (Add d c) e = rw e
line_begun h (Remove d) e = rw e
line_begun h (Resize d c) e = rw e

line_early : (h : Reading) (call : Call) → h.begun ≡ false → applied h (Ok (changing call)) ≡ refusal h 3
line_early h (Add d c) e = rw e
line_early h (Remove d) e = rw e
line_early h (Resize d c) e = rw e

-- ---- Advanced

pub refused_before : (h : Reading) (call : Call) (table : List ℕ) → h.begun ≡ false → Advanced h (Ok (changing call)) (Err Misplaced) table table
refused_before h call table e = refused Misplaced refl (line_early h call e) refl

pub refused_range : (h : Reading) (R M : ℕ) (table : List ℕ) → h.begun ≡ true → Advanced h (Ok (Range R M)) (Err Misplaced) table table
refused_range h R M table e = refused Misplaced refl (rw e) refl

pub advanced_range : (h : Reading) (R M : ℕ) (table : List ℕ) → h.begun ≡ false → (o : Opened) → Open o table × (state_in o table ≡ fresh R M)
    → Advanced h (Ok (Range R M)) (Ok (record { moved = 0; count = 0; pool = o })) table table
advanced_range h R M table e o f = accepted _ refl (rw (e, f.1)) f.0

pub places_length : length places ≡ 4096
places_length = length-replicate 4096 (move 0 0 0 0)

pub planned_few : {outcome : List Move → Outcome} {k : ℕ} {work next : List ℕ} {m : Plan} → Planned outcome k (Ok m) work next → m.after.intervals ≤ 4096
planned_few p = open_intervals (planned_accepted p).opened

-- a change line after a range line, by its plan with a list of k places
module _ (o : Opened) (table : List ℕ) (call : Call) (k : ℕ) (lent : length places ≡ k) (b : Bool) (t : b ≡ true) where
  abbrev outcome : List Move → Outcome
  outcome xs = change (state_in o table) xs (change_of call)

  -- accepted: `after`, the array that the table stands in afterwards, has the runs of the new table
  pub advanced_planned : {m : Plan} {work next after : List ℕ} → Planned outcome k (Ok m) work next
      → runs after 0 m.after.intervals ≡ runs next 0 m.after.intervals → length after ≡ room
      → Advanced (reading_in b o table) (Ok (changing call)) (Ok (record { moved = m.moved; count = m.count; pool = m.after })) table after
  advanced_planned {m} {work} {next} {after} planned e l =
      let p = planned_accepted planned in
      let state = state_renewed m.after next after e ∙ p.state places lent in
      accepted _ refl
      (line_begun (reading_in b o table) call t ∙ rw (p.number places lent, sym (p.moved places lent), sym (p.count places lent), sym state))
      (open_renewed m.after next after e l p.opened)

  -- refused: it is as it was
  pub advanced_declined : {e : Refusal} {work next : List ℕ} → Planned outcome k (Err e) work next → Advanced (reading_in b o table) (Ok (changing call)) (Err e) table table
  advanced_declined {e} planned =
      let d = planned_declined planned in
      let number_is = d.number places lent in
      let u = change_refused (state_in o table) places (change_of call) (omega (arith, number_is, number_some e)) in
      refused e refl (line_begun (reading_in b o table) call t ∙ rw (number_is, u.moved, u.count, u.state, t)) refl
