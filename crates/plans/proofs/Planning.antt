-- The plan of a change: what the rules' outcome asks of it.
--
--   opened_with e q      the pool e with a table of q intervals
--
-- number_some         a refusal's number is not 0
-- planned_same        a plan of one outcome is a plan of an equal one
-- planned_refused     a plan that refuses, where the rules refuse
-- planned_accepted, planned_declined   what a plan that was given says, or its refusal
-- settled_eight, settled_nine, settled_done     the rules' outcome, by what the steps give
-- accepted_settled    a plan that accepts, where the rules accept
use mathlib.Core.Path.{◌≡◌, refl, sym, ap, ◌∙◌, subst}
use mathlib.Core.List.{List, [], ◌∷◌, map}
use Prim.Native.Nat.{ℕ, ◌+◌, ◌≤◌, ◌<◌}
use native.Mathlib.Omega.{arith}
use lib.ListN.{length, drop, length-map}
use lib.Seq.{take-append_seam}
use borrow.Author.Tests.{lt-ltb, le-ltb}
use Rattle.std.specs.Prelude.{Result, Ok, Err}
use Rattle.refusals.specs.Replies.{number}
use Rattle.refusals.specs.declared.Refusal.{Refusal}
use Rattle.refusals.specs.declared.Refusal.TheVariants.{Shapeless, Outside, Misplaced, Present, Absent, Full, OnlyDevice, OverLimit, ShortList, NoDevice, CopiesOutside, FewOwners, PointOutside, Unmarked, OtherVersion, Faulty, ShortBuffer}
use Rattle.slicing.specs.Changes.{State, Outcome, refused, accepted, settle}
use Rattle.slicing.specs.Claims.{written}
use Rattle.slicing.specs.Runs.{Run, relabel}
use Rattle.slicing.specs.ShareRule.{shares}
use Rattle.slicing.specs.SixSteps.{Turn, new_table, Move, moves_from, moves, points}
use Rattle.slicing.specs.Validity.{Valid}
use Rattle.slicing.proofs.Changes.{valid_settled}
use Rattle.slicing_core.specs.Rows.{at}
use Rattle.slicing_core.proofs.Rows.{length_device_rows}
use Rattle.packed_runs.specs.Words.{room, runs, turns_of}
use Rattle.six_steps.specs.Steps.{Stepped}
use Rattle.six_steps.specs.declared.steps.Done.{Done}
use Rattle.six_steps.proofs.Renaming.{move_as}
use Rattle.plans.specs.Labels.{lowered}
use Rattle.opened.specs.OpenPools.{devices_in, state_in, Open}
use Rattle.plans.specs.Plans.{Accepted, Declined, Planned, accepts, refuses, Merged, state_by}
use Rattle.opened.specs.declared.Opened.{Opened}
use Rattle.plans.specs.declared.Plan.{Plan}
use Rattle.plans.specs.declared.Rows.{Rows}
use Rattle.plans.proofs.Merging.{table_by, has_by, due_by, turns_here, merged_had, merged_some, merged_points, named_table, named_moves}
use Rattle.plans.proofs.NextTables.{next_table, next_labels, next_held}
use Rattle.opened.proofs.RowNames.{length_relabel, length_runs}

-- ---- plans

accepted_same : {f g : List Move → Outcome} {places : ℕ} {p : Plan} {work next : List ℕ}
    → ((lent : List Move) → length lent ≡ places → f lent ≡ g lent) → Accepted f places p work next → Accepted g places p work next
accepted_same e a = record {
  number = λ lent l. sym (ap (λ k. k.number) (e lent l)) ∙ a.number lent l;
  moved = λ lent l. a.moved lent l ∙ ap (λ k. k.moved) (e lent l);
  count = λ lent l. a.count lent l ∙ ap (λ k. k.count) (e lent l);
  moves = λ lent l. a.moves lent l ∙ ap written (e lent l);
  most = a.most;
  points = a.points;
  state = λ lent l. a.state lent l ∙ ap (λ k. k.state) (e lent l);
  opened = a.opened;
}

declined_same : {f g : List Move → Outcome} {places : ℕ} {x : Refusal}
    → ((lent : List Move) → length lent ≡ places → f lent ≡ g lent) → Declined f places x → Declined g places x
declined_same e d = record {
  number = λ lent l. sym (ap (λ k. k.number) (e lent l)) ∙ d.number lent l;
  moved = λ lent l. sym (ap (λ k. k.moved) (e lent l)) ∙ d.moved lent l;
  count = λ lent l. sym (ap (λ k. k.count) (e lent l)) ∙ d.count lent l;
}

pub planned_same : {f g : List Move → Outcome} {places : ℕ} {r : Result Plan Refusal} {work next : List ℕ}
    → ((lent : List Move) → length lent ≡ places → f lent ≡ g lent) → Planned f places r work next → Planned g places r work next
planned_same e (accepts p is a) = accepts p is (accepted_same e a)
planned_same e (refuses x is d) = refuses x is (declined_same e d)

pub planned_refused : {outcome : List Move → Outcome} {places : ℕ} {r : Result Plan Refusal} {work next : List ℕ} (s : State) (x : Refusal) → r ≡ Err x
    → ((lent : List Move) → length lent ≡ places → outcome lent ≡ refused s lent (number x)) → Planned outcome places r work next
planned_refused s x is h = refuses x is (record {
  number = λ lent l. ap (λ k. k.number) (h lent l);
  moved = λ lent l. ap (λ k. k.moved) (h lent l);
  count = λ lent l. ap (λ k. k.count) (h lent l);
})

-- ---- refusals

pub number_some : (x : Refusal) → 1 ≤ number x
number_some Shapeless = omega arith
number_some Outside = omega arith
number_some Misplaced = omega arith
number_some Present = omega arith
number_some Absent = omega arith
number_some Full = omega arith
number_some OnlyDevice = omega arith
number_some OverLimit = omega arith
number_some ShortList = omega arith
number_some NoDevice = omega arith
number_some CopiesOutside = omega arith
number_some FewOwners = omega arith
number_some PointOutside = omega arith
number_some Unmarked = omega arith
number_some OtherVersion = omega arith
number_some Faulty = omega arith
number_some ShortBuffer = omega arith

-- ---- what a plan that was given says

abbrev plan_or : Plan → Result Plan Refusal → Plan
plan_or q (Ok p) = p
plan_or q (Err x) = q

abbrev refusal_or : Refusal → Result Plan Refusal → Refusal
refusal_or y (Ok p) = y
refusal_or y (Err x) = x

abbrev given : Result Plan Refusal → ℕ
given (Ok p) = 1
given (Err x) = 0

pub planned_accepted : {outcome : List Move → Outcome} {places : ℕ} {p : Plan} {work next : List ℕ} → Planned outcome places (Ok p) work next
    → Accepted outcome places p work next
planned_accepted {outcome} {places} {p} {work} {next} (accepts q is a) =
    subst (λ (k : Plan). Accepted outcome places k work next) (sym (ap (plan_or p) is)) a
planned_accepted (refuses x is d) = let z : ◌≡◌ {A = ℕ} 1 0 = ap given is in absurd (omega (arith, z))

pub planned_declined : {outcome : List Move → Outcome} {places : ℕ} {x : Refusal} {work next : List ℕ} → Planned outcome places (Err x) work next
    → Declined outcome places x
planned_declined (accepts q is a) = let z : ◌≡◌ {A = ℕ} 0 1 = ap given is in absurd (omega (arith, z))
planned_declined {outcome} {places} {x} (refuses y is d) = subst (λ (k : Refusal). Declined outcome places k) (sym (ap (refusal_or x) is)) d

-- ---- the rules' outcome

points_rename : (f : ℕ → ℕ) (ms : List Move) → points (map (move_as f) ms) ≡ points ms
points_rename f [] = refl
points_rename f (k ∷ ms) = ap (λ n. k.size + n) (points_rename f ms)

abbrev pub opened_with : Opened → ℕ → Opened
opened_with e q = record {
  range = e.range;
  limit = e.limit;
  devices = e.devices;
  ids = e.ids;
  capacities = e.capacities;
  has = e.has;
  intervals = q;
}

module _ {o e : Opened} {rs : Rows} {work : List ℕ} (m : Merged o e rs work) {turned next : List ℕ} {r : Done}
    (d : Stepped (table_by o work) (has_by rs) (due_by rs) rs.count turned next r) where
  count_table : length (new_table (turns_here o e rs work)) ≡ r.intervals
  count_table =
      ap length (named_table m d) ∙ length_relabel (at rs.names) (runs next 0 r.intervals) ∙ length_runs next 0 r.intervals

  count_moves : length (moves (turns_here o e rs work)) ≡ r.count
  count_moves =
      ap length (named_moves m d) ∙ length-map (moves_from 0 (turns_of turned 0 r.turns)) (move_as (at rs.names))
      ∙ ap (λ t. length (moves_from 0 t)) d.turned ∙ sym d.count

  points_moves : points (moves (turns_here o e rs work)) ≡ r.moved
  points_moves =
      ap points (named_moves m d) ∙ points_rename (at rs.names) (moves_from 0 (turns_of turned 0 r.turns))
      ∙ ap (λ t. points (moves_from 0 t)) d.turned ∙ sym d.moved

  pub settled_eight : o.limit < r.intervals → (lent : List Move) → settle shares (state_by o rs work) lent (devices_in e) ≡ refused (state_by o rs work) lent 8
  settled_eight l lent = rw (lt-ltb o.limit (length (new_table (turns_here o e rs work))) (omega (arith, count_table)))

  module _ (fits : r.intervals ≤ o.limit) where
    pub settled_nine : (lent : List Move) → length lent < r.count → settle shares (state_by o rs work) lent (devices_in e) ≡ refused (state_by o rs work) lent 9
    settled_nine lent l =
        rw (
          le-ltb o.limit (length (new_table (turns_here o e rs work))) (omega (arith, count_table)),
          lt-ltb (length lent) (length (moves (turns_here o e rs work))) (omega (arith, count_moves)),
        )

    pub settled_done : (lent : List Move) → r.count ≤ length lent
        → settle shares (state_by o rs work) lent (devices_in e)
        ≡ accepted (state_by o rs work) lent (devices_in e) (new_table (turns_here o e rs work)) (moves (turns_here o e rs work))
    settled_done lent l =
        rw (
          le-ltb o.limit (length (new_table (turns_here o e rs work))) (omega (arith, count_table)),
          le-ltb (length lent) (length (moves (turns_here o e rs work))) (omega (arith, count_moves)),
        )

    -- ---- the pool afterwards

    module _ (last : List ℕ) (h : runs last 0 r.intervals ≡ relabel (lowered rs.gone) (runs next 0 r.intervals)) (size : length last ≡ room) where
      state_settled : state_in (opened_with e r.intervals) last
          ≡ record { range = o.range; limit = o.limit; devices = devices_in e; table = new_table (turns_here o e rs work) }
      state_settled = rw (m.range, m.limit, next_table m d last h)

      open_settled : Open (opened_with e r.intervals) last
      open_settled = record {
        valid = subst Valid (sym state_settled)
            (valid_settled (state_by o rs work) m.valid (merged_had m) (devices_in e) m.rising (merged_some m)
            (omega (arith, m.few_after, length_device_rows e.ids e.capacities 0 e.devices)) (omega (arith, count_table)));
        labels = next_labels m d last h;
        held = next_held m d last h;
        ids_size = m.ids_size;
        capacities_size = m.capacities_size;
        has_size = m.shares_size;
        table_size = size;
      }

      pub accepted_settled : (places : ℕ) (p : Plan) → r.count ≤ places → p.moved ≡ r.moved → p.count ≡ r.count → p.turns ≡ r.turns
          → p.names ≡ rs.names → p.after ≡ opened_with e r.intervals
          → Accepted (λ lent. settle shares (state_by o rs work) lent (devices_in e)) places p turned last
      accepted_settled places p all em ec et en ea = record {
        number = λ lent l. ap (λ k. k.number) (done lent l);
        moved = λ lent l. em ∙ sym points_moves ∙ sym (ap (λ k. k.moved) (done lent l));
        count = λ lent l. ec ∙ sym count_moves ∙ sym (ap (λ k. k.count) (done lent l));
        moves = λ lent l.
            ap (λ n. map (move_as (at n)) (moves_from 0 (turns_of turned 0 p.turns))) en
            ∙ ap (λ t. map (move_as (at rs.names)) (moves_from 0 (turns_of turned 0 t))) et
            ∙ sym (named_moves m d)
            ∙ sym (take-append_seam (moves ts) (drop (length (moves ts)) lent))
            ∙ sym (ap written (done lent l));
        most = omega (arith, et, d.most);
        points = rw et (omega (arith, d.same, merged_points m, m.valid.most));
        state = λ lent l. ap (λ a. state_in a last) ea ∙ state_settled ∙ sym (ap (λ k. k.state) (done lent l));
        opened = subst (λ a. Open a last) (sym ea) open_settled;
      }
        where
          ts : List (Run Turn)
          ts = turns_here o e rs work

          done : (lent : List Move) → length lent ≡ places → settle shares (state_by o rs work) lent (devices_in e)
              ≡ accepted (state_by o rs work) lent (devices_in e) (new_table (turns_here o e rs work)) (moves (turns_here o e rs work))
          done lent l = settled_done lent (omega arith)
