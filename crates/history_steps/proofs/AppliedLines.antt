-- One line applied to a pool by value.
--
--   changed_declined              a change line on a valid pool that is refused, from the plan of its change on the pool opened
--   said_as, said_applied         what a line says, applied, answers the line
use mathlib.Core.Path.{◌≡◌, sym, ap, ap₂, ◌∙◌, subst}
use mathlib.Core.Bool.{Bool, true}
use mathlib.Core.List.{List}
use Prim.Native.Nat.{ℕ}
use native.Mathlib.Omega.{arith}
use Rattle.std.specs.Prelude.{Result, Ok, Err}
use Rattle.refusals.specs.Replies.{number}
use Rattle.refusals.specs.declared.Refusal.{Refusal}
use Rattle.slicing.specs.Changes.{State, Change, Outcome, change}
use Rattle.slicing.specs.SixSteps.{Move}
use Rattle.slicing.proofs.Changes.{change_refused}
use Rattle.opened.specs.declared.Opened.{Opened}
use Rattle.opened.specs.OpenPools.{state_in}
use Rattle.calls.specs.declared.Call.{Call}
use Rattle.plans.specs.Plans.{Planned}
use Rattle.plans.proofs.Planning.{number_some, planned_declined}
use Rattle.calls.specs.Calls.{change_of}
use Rattle.pools.specs.Pools.{state_of, pool_of, ValidPool}
use Rattle.pools.specs.declared.Pool.{Pool}
use Rattle.history_lines.specs.declared.lines.HistoryLine.{HistoryLine}
use Rattle.history_lines.specs.declared.lines.HistoryLine.TheVariants.{Range, Add, Remove, Resize}
use Rattle.history_lines.specs.Lines.{line_in}
use Rattle.history_lines.proofs.LineLimits.{Fits, line_in_fits}
use Rattle.history_steps.specs.declared.applying.History.{History}
use Rattle.history_steps.specs.declared.applying.LineResult.{LineResult}
use Rattle.history_steps.specs.Promises.{refused, result_line, applied_line, ChangedLine, Said, Applied}
use Rattle.history_steps.specs.Steps.{places}
use Rattle.history_steps.proofs.AdvancedLines.{places_length}

-- ---- a change line

line_valid : (h : History) (k : Change) (r : LineResult) → h.begun ≡ true → ValidPool h.pool → r ≡ result_line (change (state_of h.pool) places k)
    → ChangedLine h k r
line_valid h k r b v e = record { valid = λ _. e ∙ rw b; invalid = λ n. absurd (n v) }

-- of a valid pool, by the plan on the pool opened
module _ (h : History) (b : h.begun ≡ true) (v : ValidPool h.pool) (o : Opened) (table : List ℕ) (s : state_in o table ≡ state_of h.pool) (call : Call) where
  abbrev outcome : List Move → Outcome
  outcome lent = change (state_in o table) lent (change_of call)

  abbrev settled : Outcome
  settled = outcome places

  as_settled : {n x c : ℕ} {q : History} → n ≡ settled.number → x ≡ settled.moved → c ≡ settled.count
      → q ≡ record { begun = true; pool = pool_of settled.state } → ChangedLine h (change_of call) (record { refusal = n; moved = x; count = c; history = q })
  as_settled en ex ec eq =
      line_valid h (change_of call) _ b v (rw (en, ex, ec, eq) (ap (λ (t : State). result_line (change t places (change_of call))) s))

  pub changed_declined : {e : Refusal} {work next : List ℕ} → Planned outcome 4096 (Err e) work next → ChangedLine h (change_of call) (refused h (number e))
  changed_declined {e} planned =
      let d = planned_declined planned in
      let number_is = d.number places places_length in
      let u = change_refused (state_in o table) places (change_of call) (omega (arith, number_is, number_some e)) in
      let pool : h.pool ≡ pool_of settled.state = sym v.same ∙ ap pool_of (sym (u.state ∙ s)) in
      let same : h ≡ record { begun = true; pool = pool_of settled.state } = ap₂ (λ (t : Bool) (q : Pool). record { begun = t; pool = q }) b pool in
      as_settled (sym number_is) (sym u.moved) (sym u.count) same

-- ---- what the line says decides

module _ (h : History) (r : LineResult) where
  pub said_as : {l m : Result HistoryLine Refusal} → l ≡ m → Said h m r → Said h l r
  said_as e = subst (λ (l : Result HistoryLine Refusal). Said h l r) (sym e)

  whole : (l : Result HistoryLine Refusal) → Fits l → Said h l r → ValidPool h.pool → r ≡ applied_line h (λ k. result_line (change (state_of h.pool) places k)) l
  whole (Err e) f s v = s
  whole (Ok (Range R M)) f s v = s f
  whole (Ok (Add d c)) f s v = s.valid v
  whole (Ok (Remove d)) f s v = s.valid v
  whole (Ok (Resize d c)) f s v = s.valid v

  none : (l : Result HistoryLine Refusal) → Fits l → Said h l r → (ValidPool h.pool → ⊥) → r ≡ applied_line h (λ k. refused h 2) l
  none (Err e) f s v = s
  none (Ok (Range R M)) f s v = s f
  none (Ok (Add d c)) f s v = s.invalid v
  none (Ok (Remove d)) f s v = s.invalid v
  none (Ok (Resize d c)) f s v = s.invalid v

  pub said_applied : (xs : List ℕ) → Said h (line_in xs) r → Applied h xs r
  said_applied xs s = record { valid = whole (line_in xs) (line_in_fits xs) s; invalid = none (line_in xs) (line_in_fits xs) s }
