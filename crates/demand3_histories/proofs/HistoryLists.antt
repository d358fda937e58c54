-- Demand 3 holds of every history text, on what is printed of each line. specs/HistoryLists.antt has the statement.
--
--   map_places          the list lent to a change line is the rules' list
--   step_of s k          the call of a change line k on the pool of the state s; kept_step: it kept its promise
--   Behind, behind      lines behind an accepted range line: their calls, the pool that these left, what is printed
--   early_line, early_reading, early_printed     lines before it
--   Parted, parted      the first accepted range line of any lines, or that there is none
--   history_demand3     the theorem
use mathlib.Core.Path.{◌≡◌, refl, sym, ap, ap₂, ◌∙◌, subst}
use mathlib.Core.Bool.{true, false}
use mathlib.Core.List.{List, [], ◌∷◌, ◌++◌, map, append_assoc}
use Prim.Native.Nat.{ℕ, zero, suc, ◌+◌, ◌≤◌}
use native.Mathlib.Omega.{arith}
use lib.ListN.{length, drop, replicate}
use Rattle.pools.specs.Pools.{state_of, pool_of}
use Rattle.pools.proofs.PoolLaws.{state_of_pool_of, valid_pool_pool_of}
use Rattle.slicing.specs.Changes.{State, fresh, Change, add, remove, resize, Outcome, change}
use Rattle.slicing.specs.Claims as Rules
use Rattle.slicing.specs.Ledger.{blank}
use Rattle.slicing.specs.Limits.{max_range, max_limit}
use Rattle.slicing.specs.SixSteps.{move}
use Rattle.slicing.specs.Validity.{Valid}
use Rattle.slicing.proofs.Changes.{valid_change}
use Rattle.placement.specs.Promises.{move_of, row_of, Answered, Changed}
use Rattle.std.specs.Prelude.{Result, Ok, Err}
use Rattle.refusals.specs.Replies.{number}
use Rattle.refusals.specs.declared.Refusal.{Refusal}
use Rattle.history_lines.specs.declared.lines.HistoryLine.{HistoryLine}
use Rattle.history_lines.specs.declared.lines.HistoryLine.TheVariants.{Range, Add, Remove, Resize}
use Rattle.history_lines.specs.Lines.{range_outside, line_in}
use Rattle.history_numbers.specs.Text.{line_end, split}
use Rattle.history_lines.proofs.LineLimits.{line_fits, refused_fits, range_limits}
use Rattle.history_printing.specs.Printing.{fields}
use Rattle.history_steps.specs.Steps.{Reading, start, refusal, places, applied}
use Rattle.history.specs.Histories.{last_of, lines_of, read_all, printed_lines, unfinished}
use Rattle.history.specs.Histories as Histories
use Rattle.history.specs.Replay.{printed_line, printed_table, replayed}
use Rattle.history.proofs.ReplayLaws.{fresh_valid, read_all_join, pool_after_valid, printed_lines_join, replayed_text}
use Rattle.demand3.specs.CallLists.{Step, Call, calls_of, Kept, pool_after}
use Rattle.demand3.specs.Openings.{Opening}
use Rattle.demand3.proofs.Demand3.{demand3}
use Rattle.demand3.proofs.Inhabited.{opens_fresh}
use Rattle.demand3_histories.specs.HistoryLists.{early_number, Early, printed_early, answered, numbers_of, later, calls_behind, printed_calls, blank_place, places_lent, call_of, called, calls_of_lines, Ranged, Unranged, HistoryDemand3, ranged, unranged}

-- ---- one call

map_blanks : (n : ℕ) → map move_of (replicate n blank_place) ≡ replicate n (move 0 0 0 0)
map_blanks zero = refl
map_blanks (suc n) = ap (λ ms. move 0 0 0 0 ∷ ms) (map_blanks n)

pub map_places : map move_of places_lent ≡ places
map_places = map_blanks 4096

abbrev step_of : State → Change → Step
step_of s k =
    let o = change s places k in
    record {
      change = k;
      lent = places_lent;
      answer = record { refusal = o.number; moved = o.moved; count = o.count; pool = pool_of o.state };
      after = map row_of (Rules.written o) ++ drop o.count places_lent;
    }

kept_step : (s : State) → Valid s → (k : Change) → Changed (pool_of s) places_lent k (step_of s k).answer (step_of s k).after
kept_step s v k = record {
  valid = λ u.
      subst (λ (o : Outcome). Answered places_lent o (pool_of o.state) (step_of s k).answer (step_of s k).after) same
      (record { number = refl; moved = refl; count = refl; pool = refl; list = refl });
  invalid = λ n. absurd (n (valid_pool_pool_of s v));
}
  where
    same : change s places k ≡ change (state_of (pool_of s)) (map move_of places_lent) k
    same = ap₂ (λ t l. change t l k) (sym (state_of_pool_of s v)) (sym map_places)

-- ---- behind the range line

abbrev reading : State → Reading
reading s = record { begun = true; pool = s }

-- calls cs from the pool of s on that leave that of e: what the replay prints from line n on is what is said of the calls
record Follows (s : State) (cs : List Call) (e : State) (replays : ℕ → List ℕ) (says : ℕ → List Step → List ℕ) : Type 0 where
  pub steps : List Step
  pub asked : calls_of steps ≡ cs
  pub kept : Kept (pool_of s) steps
  pub left : pool_of e ≡ pool_after (pool_of s) steps
  pub printed : (n : ℕ) → replays n ≡ says n steps

abbrev Behind : State → List (List ℕ) → Type 0
Behind s ps = Follows s (calls_of_lines ps) (read_all (reading s) ps).pool (λ n. printed_lines (reading s) n ps) (λ n ts. printed_calls n ps ts)

-- a line that says l in front of the lines ps
abbrev BehindLine : State → Result HistoryLine Refusal → List (List ℕ) → Type 0
BehindLine s l ps =
    Follows s (called l (calls_of_lines ps)) (read_all (applied (reading s) l).after ps).pool
    (λ n. printed_line n (applied (reading s) l) ++ printed_lines (applied (reading s) l).after (suc n) ps)
    (λ n ts. fields (n ∷ numbers_of l ts) ++ printed_calls (suc n) ps (calls_behind l ts))

module _ (s : State) (v : Valid s) (ps : List (List ℕ)) (rest : (t : State) → Valid t → Behind t ps) where
  -- a refused line uses up no call
  refused_line : (ns : ℕ → List ℕ)
      → Follows s (calls_of_lines ps) (read_all (reading s) ps).pool (λ n. fields (ns n) ++ printed_lines (reading s) (suc n) ps)
      (λ n ts. fields (ns n) ++ printed_calls (suc n) ps ts)
  refused_line ns =
      let r : Behind s ps = rest s v in
      record { steps = r.steps; asked = r.asked; kept = r.kept; left = r.left; printed = λ n. ap (λ ys. fields (ns n) ++ ys) (r.printed (suc n)) }

  module _ (k : Change) where
    abbrev o : Outcome
    o = change s places k

    -- a change line is a call
    change_line_lem : Follows s (call_of k ∷ calls_of_lines ps) (read_all (reading o.state) ps).pool
        (λ n. fields (n ∷ o.number ∷ o.moved ∷ o.count ∷ []) ++ printed_lines (reading o.state) (suc n) ps)
        (λ n ts. fields (n ∷ answered ts) ++ printed_calls (suc n) ps (later ts))
    change_line_lem =
        let r : Behind o.state ps = rest o.state (valid_change s v places k) in
        record {
          steps = step_of s k ∷ r.steps;
          asked = ap (λ cs. call_of k ∷ cs) r.asked;
          kept = (kept_step s v k, r.kept);
          left = r.left;
          printed = λ n. ap (λ ys. fields (n ∷ o.number ∷ o.moved ∷ o.count ∷ []) ++ ys) (r.printed (suc n));
        }

  behind_line : (l : Result HistoryLine Refusal) → BehindLine s l ps
  behind_line (Err x) = refused_line (λ n. n ∷ number x ∷ 0 ∷ 0 ∷ [])
  behind_line (Ok (Range R M)) = refused_line (λ n. n ∷ 3 ∷ 0 ∷ 0 ∷ [])
  behind_line (Ok (Add d c)) = change_line_lem (add d c)
  behind_line (Ok (Remove d)) = change_line_lem (remove d)
  behind_line (Ok (Resize d c)) = change_line_lem (resize d c)

behind : (ps : List (List ℕ)) (s : State) → Valid s → Behind s ps
behind [] s v = record { steps = []; asked = refl; kept = tt; left = refl; printed = λ n. refl }
behind (p ∷ ps) s v = behind_line s v ps (behind ps) (line_in p)

-- ---- before the range line

early_line : (l : Result HistoryLine Refusal) → 1 ≤ early_number l → applied start l ≡ refusal start (early_number l)
early_line (Err x) e = refl
early_line (Ok (Range R M)) e = absurd (omega arith)
early_line (Ok (Add d c)) e = refl
early_line (Ok (Remove d)) e = refl
early_line (Ok (Resize d c)) e = refl

early_reading : (ps : List (List ℕ)) → Early ps → read_all start ps ≡ start
early_reading [] e = refl
early_reading (p ∷ ps) e = ap (λ r. read_all r.after ps) (early_line (line_in p) e.0) ∙ early_reading ps e.1

early_printed : (ps : List (List ℕ)) → Early ps → (n : ℕ) → printed_lines start n ps ≡ printed_early n ps
early_printed [] e n = refl
early_printed (p ∷ ps) e n =
    ap (λ r. printed_line n r ++ printed_lines r.after (suc n) ps) (early_line (line_in p) e.0)
    ∙ ap (λ ys. fields (n ∷ early_number (line_in p) ∷ 0 ∷ 0 ∷ []) ++ ys) (early_printed ps e.1 (suc n))

-- ---- the first accepted range line

record Begun (ps : List (List ℕ)) : Type 0 where
  pub front : List (List ℕ)
  pub line : List ℕ
  pub back : List (List ℕ)
  pub parts : ps ≡ front ++ line ∷ back
  pub early : Early front
  pub range : ℕ
  pub limit : ℕ
  pub ranged : line_in line ≡ Ok (Range range limit)

data Parted (ps : List (List ℕ)) : Type 0 where
  never : Early ps → Parted ps
  begun : Begun ps → Parted ps

parted_front : (p : List ℕ) (ps : List (List ℕ)) → 1 ≤ early_number (line_in p) → Parted ps → Parted (p ∷ ps)
parted_front p ps e (never f) = never (e, f)
parted_front p ps e (begun b) =
    begun (record {
      front = p ∷ b.front;
      line = b.line;
      back = b.back;
      parts = ap (λ qs. p ∷ qs) b.parts;
      early = (e, b.early);
      range = b.range;
      limit = b.limit;
      ranged = b.ranged;
    })

parted : (ps : List (List ℕ)) → Parted ps
parted [] = never tt
parted (p ∷ ps) = go (line_in p) refl (parted ps)
  where
    go : (l : Result HistoryLine Refusal) → line_in p ≡ l → Parted ps → Parted (p ∷ ps)
    go (Ok (Range R M)) e t = begun (record { front = []; line = p; back = ps; parts = refl; early = tt; range = R; limit = M; ranged = e })
    go (Err x) e t = parted_front p ps (omega (arith, ap early_number e, (refused_fits p x e).0)) t
    go (Ok (Add d c)) e t = parted_front p ps (omega (arith, ap early_number e)) t
    go (Ok (Remove d)) e t = parted_front p ps (omega (arith, ap early_number e)) t
    go (Ok (Resize d c)) e t = parted_front p ps (omega (arith, ap early_number e)) t

-- ---- every text

pub opens : (R M : ℕ) → range_outside R M ≡ false → Opening R M (pool_of (fresh R M)) blank
opens R M e =
    let l : (1 ≤ R) × (R ≤ max_range) × (1 ≤ M) × (M ≤ max_limit) = range_limits R M e in
    opens_fresh R M l.0 l.1 l.2 l.3

-- the bytes ys, then what stands behind the last line end, printed, and the table of s
abbrev ended : List ℕ → List ℕ → State → List ℕ
ended xs ys s = ys ++ unfinished (suc (length (lines_of xs))) (last_of (split line_end xs)) ++ printed_table s

replayed_ended : (xs : List ℕ) → replayed xs ≡ ended xs (printed_lines start 1 (lines_of xs)) (Histories.pool_after xs)
replayed_ended xs =
    let e : 1 + length (lines_of xs) ≡ suc (length (lines_of xs)) = omega arith in
    replayed_text xs
    ∙ ap (λ m. printed_lines start 1 (lines_of xs) ++ unfinished m (last_of (split line_end xs)) ++ printed_table (Histories.pool_after xs)) e

never_ranged : (xs : List ℕ) → Early (lines_of xs) → Unranged xs
never_ranged xs e = record {
  early = e;
  left = left;
  printed = replayed_ended xs ∙ ap₂ (ended xs) (early_printed (lines_of xs) e 1) left;
}
  where
    left : Histories.pool_after xs ≡ fresh 1 1
    left = ap (λ (h : Reading). h.pool) (early_reading (lines_of xs) e)

module _ (xs : List ℕ) (b : Begun (lines_of xs)) where
  abbrev first : State
  first = fresh b.range b.limit

  fits : range_outside b.range b.limit ≡ false
  fits = line_fits b.line b.range b.limit b.ranged

  calls : Behind first b.back
  calls = behind b.back first (fresh_valid b.range b.limit fits)

  pool_left_lem : Histories.pool_after xs ≡ (read_all (reading first) b.back).pool
  pool_left_lem =
      ap (λ (h : Reading). h.pool)
      (ap (read_all start) b.parts ∙ read_all_join start b.front (b.line ∷ b.back)
      ∙ ap (λ h. read_all h (b.line ∷ b.back)) (early_reading b.front b.early)
      ∙ ap (λ l. read_all (applied start l).after b.back) b.ranged)

  left : pool_of (Histories.pool_after xs) ≡ pool_after (pool_of first) calls.steps
  left = ap pool_of pool_left_lem ∙ calls.left

  -- the table is that of the pool that the calls left
  state_left : Histories.pool_after xs ≡ state_of (pool_after (pool_of first) calls.steps)
  state_left = sym (state_of_pool_of (Histories.pool_after xs) (pool_after_valid xs)) ∙ ap state_of left

  abbrev n : ℕ
  n = length b.front

  range_printed : printed_lines start (suc n) (b.line ∷ b.back) ≡ fields (suc n ∷ 0 ∷ 0 ∷ 0 ∷ []) ++ printed_calls (suc (suc n)) b.back calls.steps
  range_printed =
      ap (λ l. printed_line (suc n) (applied start l) ++ printed_lines (applied start l).after (suc (suc n)) b.back) b.ranged
      ∙ ap (λ ys. fields (suc n ∷ 0 ∷ 0 ∷ 0 ∷ []) ++ ys) (calls.printed (suc (suc n)))

  lines_printed : printed_lines start 1 (lines_of xs)
      ≡ printed_early 1 b.front ++ fields (suc n ∷ 0 ∷ 0 ∷ 0 ∷ []) ++ printed_calls (suc (suc n)) b.back calls.steps
  lines_printed =
      let e : 1 + n ≡ suc n = omega arith in
      ap (printed_lines start 1) b.parts ∙ printed_lines_join start 1 b.front (b.line ∷ b.back)
      ∙ ap₂ (λ ys h. ys ++ printed_lines h (1 + n) (b.line ∷ b.back)) (early_printed b.front b.early 1) (early_reading b.front b.early)
      ∙ ap (λ m. printed_early 1 b.front ++ printed_lines start m (b.line ∷ b.back)) e
      ∙ ap (λ ys. printed_early 1 b.front ++ ys) range_printed
      ∙ sym (append_assoc (printed_early 1 b.front) (fields (suc n ∷ 0 ∷ 0 ∷ 0 ∷ [])) (printed_calls (suc (suc n)) b.back calls.steps))

  once_ranged : Ranged xs
  once_ranged = record {
    front = b.front;
    line = b.line;
    back = b.back;
    parts = b.parts;
    early = b.early;
    range = b.range;
    limit = b.limit;
    ranged = b.ranged;
    fits = fits;
    steps = calls.steps;
    asked = calls.asked;
    kept = calls.kept;
    claim = demand3 b.range b.limit (pool_of first) blank (opens b.range b.limit fits) calls.steps calls.kept;
    left = left;
    printed = replayed_ended xs ∙ ap₂ (ended xs) lines_printed state_left;
  }

pub history_demand3 : (xs : List ℕ) → HistoryDemand3 xs
history_demand3 xs = go (parted (lines_of xs))
  where
    go : Parted (lines_of xs) → HistoryDemand3 xs
    go (never e) = unranged (never_ranged xs e)
    go (begun b) = ranged (once_ranged xs b)
