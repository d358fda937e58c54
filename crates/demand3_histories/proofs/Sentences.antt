-- The sentences of demand 3 of a history: each follows from the fields of `Ranged` and `Unranged` alone.
--
--   PrintedAt ys i ns      line i of the bytes ys, counted from 0, has the numbers ns
--   RefusedAt ys i n       line i is printed with the refusal number n and no moves
--   changes_in ps           how many of the lines ps are change lines
--   Asks l k               a line that says l asks for the change k
--   CallAt g i j k         line i is printed with the answers of call j, which asked for the change k
--   rows_from p i n         n intervals of the pool p, from place i on, printed
--
-- the calls' promises    bytes_written, ranged_bytes, unranged_bytes (transcript), ranged_pool, unranged_pool (pool_after)
-- lines                  front_refused, range_line, change_lines, other_lines, unranged_refused
-- calls                  as_many_calls, places_lent_lem, refused_call, one_owner_each, exact_shares, moved_points; printed: refused_printed,
--                        moved_printed
-- the end                left_agrees, range_and_limit_left, owners_left_lem, shares_left, table_printed_lem, unranged_table
use mathlib.Core.Path.{◌≡◌, refl, sym, ap, ap₂, ◌∙◌, subst}
use mathlib.Core.Bool.{Bool, true, false, not}
use mathlib.Core.List.{List, [], ◌∷◌, ◌++◌, append_assoc}
use Prim.Native.Nat.{ℕ, zero, suc, ◌+◌, ◌-◌, ◌≤◌, ◌<◌}
use native.Mathlib.Omega.{arith}
use lib.Dec.{eqb}
use lib.ListN.{length, drop, length-replicate}
use borrow.Author.Tests.{lt-ltb, le-ltb}
use Rattle.pools.specs.Pools.{state_of, pool_of, ValidPool}
use Rattle.pools.specs.declared.Pool.{Pool}
use Rattle.pools.specs.declared.PoolAnswer.{PoolAnswer}
use Rattle.pools.proofs.PoolLaws.{valid_pool_pool_of}
use Rattle.slicing.specs.Changes.{fresh, Change, add, remove, resize}
use Rattle.slicing.specs.Devices.{present}
use Rattle.slicing.specs.Ledger.{Ledger, blank}
use Rattle.slicing.specs.Limits.{max_range, max_limit}
use Rattle.slicing.specs.Runs.{one}
use Rattle.slicing.specs.ShareRule.{share_of}
use Rattle.slicing.proofs.Counting.{count_append}
use Rattle.slicing_core.specs.Rows.{at, interval_rows}
use Rattle.std.specs.Prelude.{Result, Ok, Err}
use Rattle.refusals.specs.Replies.{number}
use Rattle.refusals.specs.declared.Refusal.{Refusal}
use Rattle.history_lines.specs.declared.lines.HistoryLine.{HistoryLine}
use Rattle.history_lines.specs.declared.lines.HistoryLine.TheVariants.{Range, Add, Remove, Resize}
use Rattle.history_lines.specs.Lines.{line_in}
use Rattle.history_numbers.specs.Text.{line_end, split}
use Rattle.history_lines.proofs.LineLimits.{range_limits}
use Rattle.history_printing.specs.Printing.{fields, printed_rows}
use Rattle.history.specs.Histories.{last_of, lines_of, line_ends, unfinished}
use Rattle.history.specs.Histories as Histories
use Rattle.history.specs.Promises.{room, Transcribed, Left}
use Rattle.history.specs.Replay.{printed_table, max_text, replayed, transcript}
use Rattle.history.proofs.PrintedLines.{line_ends_then, line_ends_fields}
use Rattle.history.proofs.PrintedTables.{heading, table_rows_lem}
use Rattle.history.proofs.ReplayLaws.{pool_after_valid, transcript_replayed}
use Rattle.demand3.specs.CallLists.{Step, Call, calls_of, Kept, feed_step, pool_after, ledger_after}
use Rattle.demand3.specs.Demand3.{Agreement}
use Rattle.demand3.specs.Openings.{Opening}
use Rattle.demand3.specs.Points.{count_of, end_of, OneInterval, holds}
use Rattle.demand3.proofs.Sentences.{agreement_end, Facts, facts_at, refused_stays, one_owner, exact_share, moved_count}
use Rattle.demand3_histories.specs.HistoryLists.{early_number, Early, printed_early, numbers_of, calls_behind, later, printed_calls, blank_place, places_lent, call_of, called, calls_of_lines, Ranged, Unranged}
use Rattle.demand3_histories.proofs.HistoryLists.{opens}

-- ---- lines of bytes

pub record PrintedAt (ys : List ℕ) (i : ℕ) (ns : List ℕ) : Type 0 where
  pub above : List ℕ
  pub below : List ℕ
  pub whole : ys ≡ above ++ fields ns ++ below
  pub place : line_ends above ≡ i

pub record RefusedAt (ys : List ℕ) (i n : ℕ) : Type 0 where
  pub some : 1 ≤ n
  pub printed : PrintedAt ys i (suc i ∷ n ∷ 0 ∷ 0 ∷ [])

printed_as : {ys : List ℕ} {i : ℕ} {ms ns : List ℕ} → ms ≡ ns → PrintedAt ys i ms → PrintedAt ys i ns
printed_as {ys} {i} e = subst (λ (ns : List ℕ). PrintedAt ys i ns) e

-- ---- lines before the range line

line_ends_early : (n : ℕ) (ps : List (List ℕ)) → line_ends (printed_early n ps) ≡ length ps
line_ends_early n [] = refl
line_ends_early n (p ∷ ps) =
    line_ends_then (n ∷ early_number (line_in p) ∷ 0 ∷ 0 ∷ []) (printed_early (suc n) ps) ∙ ap suc (line_ends_early (suc n) ps)

printed_early_join : (n : ℕ) (ps qs : List (List ℕ)) → printed_early n (ps ++ qs) ≡ printed_early n ps ++ printed_early (n + length ps) qs
printed_early_join n [] qs = let e : n ≡ n + 0 = omega arith in ap (λ m. printed_early m qs) e
printed_early_join n (p ∷ ps) qs =
    let f : List ℕ = fields (n ∷ early_number (line_in p) ∷ 0 ∷ 0 ∷ []) in
    let e : suc n + length ps ≡ n + suc (length ps) = omega arith in
    ap (λ ys. f ++ ys) (printed_early_join (suc n) ps qs ∙ ap (λ m. printed_early (suc n) ps ++ printed_early m qs) e)
    ∙ sym (append_assoc f (printed_early (suc n) ps) (printed_early (n + suc (length ps)) qs))

early_number_lem : (us : List (List ℕ)) (p : List ℕ) (vs : List (List ℕ)) → Early (us ++ p ∷ vs) → 1 ≤ early_number (line_in p)
early_number_lem [] p vs e = e.0
early_number_lem (u ∷ us) p vs e = early_number_lem us p vs e.1

early_at : (us : List (List ℕ)) (p : List ℕ) (vs : List (List ℕ)) → Early (us ++ p ∷ vs) → (ys zs : List ℕ)
    → ys ≡ printed_early 1 (us ++ p ∷ vs) ++ zs → RefusedAt ys (length us) (early_number (line_in p))
early_at us p vs e ys zs q = record {
  some = early_number_lem us p vs e;
  printed =
      record {
        above = printed_early 1 us;
        below = printed_early (suc (suc (length us))) vs ++ zs;
        whole =
            let n : 1 + length us ≡ suc (length us) = omega arith in
            q ∙ ap (λ l. l ++ zs) (printed_early_join 1 us (p ∷ vs) ∙ ap (λ m. printed_early 1 us ++ printed_early m (p ∷ vs)) n)
            ∙ simp append_assoc;
        place = line_ends_early 1 us;
      };
}

-- ---- lines behind it

abbrev change_line : Result HistoryLine Refusal → Bool
change_line (Err x) = false
change_line (Ok (Range R M)) = false
change_line (Ok (Add d c)) = true
change_line (Ok (Remove d)) = true
change_line (Ok (Resize d c)) = true

abbrev pub changes_in : List (List ℕ) → ℕ
changes_in [] = 0
changes_in (p ∷ ps) = one (change_line (line_in p)) + changes_in ps

abbrev pub Asks : Result HistoryLine Refusal → Change → Type 0
Asks (Err x) k = ⊥
Asks (Ok (Range R M)) k = ⊥
Asks (Ok (Add d c)) k = k ≡ add d c
Asks (Ok (Remove d)) k = k ≡ remove d
Asks (Ok (Resize d c)) k = k ≡ resize d c

-- the calls that are left after the lines ps
abbrev calls_after : List (List ℕ) → List Step → List Step
calls_after [] ts = ts
calls_after (p ∷ ps) ts = calls_after ps (calls_behind (line_in p) ts)

line_ends_calls : (n : ℕ) (ps : List (List ℕ)) (ts : List Step) → line_ends (printed_calls n ps ts) ≡ length ps
line_ends_calls n [] ts = refl
line_ends_calls n (p ∷ ps) ts =
    line_ends_then (n ∷ numbers_of (line_in p) ts) (printed_calls (suc n) ps (calls_behind (line_in p) ts))
    ∙ ap suc (line_ends_calls (suc n) ps (calls_behind (line_in p) ts))

printed_calls_join : (n : ℕ) (ps qs : List (List ℕ)) (ts : List Step)
    → printed_calls n (ps ++ qs) ts ≡ printed_calls n ps ts ++ printed_calls (n + length ps) qs (calls_after ps ts)
printed_calls_join n [] qs ts = let e : n ≡ n + 0 = omega arith in ap (λ m. printed_calls m qs ts) e
printed_calls_join n (p ∷ ps) qs ts =
    let f : List ℕ = fields (n ∷ numbers_of (line_in p) ts) in
    let e : suc n + length ps ≡ n + suc (length ps) = omega arith in
    ap (λ ys. f ++ ys)
    (printed_calls_join (suc n) ps qs (calls_behind (line_in p) ts)
    ∙ ap (λ m. printed_calls (suc n) ps (calls_behind (line_in p) ts) ++ printed_calls m qs (calls_after (p ∷ ps) ts)) e)
    ∙ sym (append_assoc f (printed_calls (suc n) ps (calls_behind (line_in p) ts)) (printed_calls (n + suc (length ps)) qs (calls_after (p ∷ ps) ts)))

-- calls ts, the first n of them, and those left, which ask for cs
record Cut (ts left : List Step) (n : ℕ) (cs : List Call) : Type 0 where
  pub earlier : List Step
  pub whole : ts ≡ earlier ++ left
  pub size : length earlier ≡ n
  pub asked : calls_of left ≡ cs

cut_size : {ts left : List Step} {n m : ℕ} {cs : List Call} → Cut ts left n cs → n ≡ m → Cut ts left m cs
cut_size {ts} {left} {cs = cs} c e = subst (λ (n : ℕ). Cut ts left n cs) e c

module _ (us qs : List (List ℕ))
    (rest : (ts : List Step) → calls_of ts ≡ calls_of_lines (us ++ qs) → Cut ts (calls_after us ts) (changes_in us) (calls_of_lines qs)) where
  cut_change : (k : Change) (ts : List Step) → calls_of ts ≡ call_of k ∷ calls_of_lines (us ++ qs)
      → Cut ts (calls_after us (later ts)) (suc (changes_in us)) (calls_of_lines qs)
  cut_change k [] e = let z : ◌≡◌ {A = ℕ} 0 1 = cc in absurd (omega arith)
  cut_change k (t ∷ ts) e =
      let r : Cut ts (calls_after us ts) (changes_in us) (calls_of_lines qs) = rest ts (cc) in
      record { earlier = t ∷ r.earlier; whole = ap (λ l. t ∷ l) r.whole; size = ap suc r.size; asked = r.asked }

  cut_line : (l : Result HistoryLine Refusal) (ts : List Step) → calls_of ts ≡ called l (calls_of_lines (us ++ qs))
      → Cut ts (calls_after us (calls_behind l ts)) (one (change_line l) + changes_in us) (calls_of_lines qs)
  cut_line (Err x) ts e = cut_size (rest ts e) (omega arith)
  cut_line (Ok (Range R M)) ts e = cut_size (rest ts e) (omega arith)
  cut_line (Ok (Add d c)) ts e = cut_size (cut_change (add d c) ts e) (omega arith)
  cut_line (Ok (Remove d)) ts e = cut_size (cut_change (remove d) ts e) (omega arith)
  cut_line (Ok (Resize d c)) ts e = cut_size (cut_change (resize d c) ts e) (omega arith)

cut : (us qs : List (List ℕ)) (ts : List Step) → calls_of ts ≡ calls_of_lines (us ++ qs) → Cut ts (calls_after us ts) (changes_in us) (calls_of_lines qs)
cut [] qs ts e = record { earlier = []; whole = refl; size = refl; asked = e }
cut (u ∷ us) qs ts e = cut_line us qs (cut us qs) (line_in u) ts e

-- ---- the table

abbrev pub rows_from : Pool → ℕ → ℕ → List ℕ
rows_from p i zero = []
rows_from p i (suc n) = fields (at p.starts i ∷ (end_of p i - at p.starts i) ∷ at p.owners i ∷ []) ++ rows_from p (suc i) n

rows_listed : (p : Pool) (i n : ℕ) → i + n ≡ p.intervals → printed_rows (interval_rows p.starts p.owners p.range i n) ≡ rows_from p i n
rows_listed p i zero e = refl
rows_listed p i (suc zero) e = rw (le-ltb (suc i) p.intervals (omega arith))
rows_listed p i (suc (suc n)) e =
    rw (lt-ltb (suc i) p.intervals (omega arith))
    (ap (λ ys. fields (at p.starts i ∷ (at p.starts (suc i) - at p.starts i) ∷ at p.owners i ∷ []) ++ ys)
    (rows_listed p (suc i) (suc n) (omega arith)))

table_listed : (p : Pool) → ValidPool p → printed_table (state_of p) ≡ heading ++ rows_from p 0 p.intervals
table_listed p v = sym (table_rows_lem p v) ∙ ap (λ ys. heading ++ ys) (rows_listed p 0 p.intervals (omega arith))

-- ---- the promises of the calls

module _ (xs : List ℕ) where
  -- a buffer with room, and at most 65,536 bytes of text
  pub bytes_written : (before after : List ℕ) (r : Result ℕ Refusal) → Transcribed xs before r after → room ≤ length before → length xs ≤ max_text
      → (ys : List ℕ) → replayed xs ≡ ys → (r ≡ Ok (length ys)) × (after ≡ ys ++ drop (length ys) before)
  bytes_written before after r t b l ys e =
      let z = le-ltb (length before) room b in
      let q : transcript xs ≡ ys = transcript_replayed xs l ∙ e in
      (t.answer ∙ rw (z, q), t.buffer ∙ rw (z, q))

  pool_written : (r : PoolAnswer) → Left xs r → length xs ≤ max_text → (r.refusal ≡ 0) × (r.pool ≡ pool_of (Histories.pool_after xs))
  pool_written r a l =
      let e : r ≡ record { refusal = 0; pool = pool_of (Histories.pool_after xs) } = a ∙ rw (le-ltb max_text (length xs) l) in
      (ap (λ (s : PoolAnswer). s.refusal) e, ap (λ (s : PoolAnswer). s.pool) e)

-- ---- a text with an accepted range line

-- every call of lines has the list of 4,096 places
abbrev Lent : List Call → Type 0
Lent [] = Unit {0}
Lent (c ∷ cs) = (c.lent ≡ places_lent) × Lent cs

lent_lines : (ps : List (List ℕ)) → Lent (calls_of_lines ps)
lent_lines [] = tt
lent_lines (p ∷ ps) = go (line_in p) (lent_lines ps)
  where
    go : (l : Result HistoryLine Refusal) → Lent (calls_of_lines ps) → Lent (called l (calls_of_lines ps))
    go (Err x) r = r
    go (Ok (Range R M)) r = r
    go (Ok (Add d c)) r = (refl, r)
    go (Ok (Remove d)) r = (refl, r)
    go (Ok (Resize d c)) r = (refl, r)

lent_each : (us : List Step) (t : Step) (vs : List Step) → Lent (calls_of (us ++ t ∷ vs)) → t.lent ≡ places_lent
lent_each [] t vs r = r.0
lent_each (u ∷ us) t vs r = lent_each us t vs r.1

length_lines : (ps : List (List ℕ)) → length (calls_of_lines ps) ≡ changes_in ps
length_lines [] = refl
length_lines (p ∷ ps) = go (line_in p) (length_lines ps)
  where
    go : (l : Result HistoryLine Refusal) → length (calls_of_lines ps) ≡ changes_in ps → length (called l (calls_of_lines ps)) ≡ one (change_line l) + changes_in ps
    go (Err x) r = omega arith
    go (Ok (Range R M)) r = omega arith
    go (Ok (Add d c)) r = omega arith
    go (Ok (Remove d)) r = omega arith
    go (Ok (Resize d c)) r = omega arith

length_calls : (ts : List Step) → length (calls_of ts) ≡ length ts
length_calls [] = refl
length_calls (t ∷ ts) = ap suc (length_calls ts)

pub record CallAt {xs : List ℕ} (g : Ranged xs) (i j : ℕ) (k : Change) : Type 0 where
  pub earlier : List Step
  pub call : Step
  pub others : List Step
  pub whole : g.steps ≡ earlier ++ call ∷ others
  pub place : length earlier ≡ j
  pub change : call.change ≡ k
  pub printed : PrintedAt (replayed xs) i (suc i ∷ call.answer.refusal ∷ call.answer.moved ∷ call.answer.count ∷ [])

module _ {xs : List ℕ} (g : Ranged xs) where
  abbrev first : Pool
  first = pool_of (fresh g.range g.limit)

  abbrev pub pool_left : Pool
  pool_left = pool_after first g.steps

  -- the book that is fed with all calls
  abbrev pub book : Ledger
  book = ledger_after blank g.steps

  abbrev finish : List ℕ
  finish = unfinished (suc (length (lines_of xs))) (last_of (split line_end xs))

  abbrev table : List ℕ
  table = printed_table (state_of pool_left)

  -- what is printed behind the last complete line
  abbrev end : List ℕ
  end = finish ++ table

  -- what is printed of the lines, and then what follows
  abbrev pub lines_then : List ℕ → List ℕ
  lines_then ys =
      printed_early 1 g.front ++ fields (suc (length g.front) ∷ 0 ∷ 0 ∷ 0 ∷ [])
      ++ printed_calls (suc (suc (length g.front))) g.back g.steps ++ finish ++ ys

  opening : Opening g.range g.limit first blank
  opening = opens g.range g.limit g.fits

  left_valid : ValidPool pool_left
  left_valid = subst ValidPool g.left (valid_pool_pool_of (Histories.pool_after xs) (pool_after_valid xs))

  -- ---- the promises of the calls

  -- `transcript` writes what is printed of each line and of the table, and answers how many bytes that is
  pub ranged_bytes : (before after : List ℕ) (r : Result ℕ Refusal) → Transcribed xs before r after → room ≤ length before → length xs ≤ max_text
      → let ys = lines_then table in (r ≡ Ok (length ys)) × (after ≡ ys ++ drop (length ys) before)
  ranged_bytes before after r t b l = bytes_written xs before after r t b l (lines_then table) g.printed

  -- `pool_after` answers the pool that the calls left
  pub ranged_pool : (r : PoolAnswer) → Left xs r → length xs ≤ max_text → (r.refusal ≡ 0) × (r.pool ≡ pool_left)
  ranged_pool r a l = let w = pool_written xs r a l in (w.0, w.1 ∙ g.left)

  -- ---- lines

  -- every line before the range line prints a refusal number and no moves
  pub front_refused : (us : List (List ℕ)) (p : List ℕ) (vs : List (List ℕ)) → g.front ≡ us ++ p ∷ vs
      → RefusedAt (replayed xs) (length us) (early_number (line_in p))
  front_refused us p vs e =
      let f : List ℕ = fields (suc (length g.front) ∷ 0 ∷ 0 ∷ 0 ∷ []) in
      let c : List ℕ = printed_calls (suc (suc (length g.front))) g.back g.steps in
      early_at us p vs (subst Early e g.early) (replayed xs) (f ++ c ++ end)
      (g.printed ∙ (simp append_assoc) ∙ ap (λ ps. printed_early 1 ps ++ (f ++ c ++ end)) e)

  -- the range line, within its limits, prints zeros
  pub range_line : (lines_of xs ≡ g.front ++ g.line ∷ g.back) × (line_in g.line ≡ Ok (Range g.range g.limit))
      × ((1 ≤ g.range) × (g.range ≤ max_range) × (1 ≤ g.limit) × (g.limit ≤ max_limit))
      × PrintedAt (replayed xs) (length g.front) (suc (length g.front) ∷ 0 ∷ 0 ∷ 0 ∷ [])
  range_line = (
    g.parts,
    g.ranged,
    range_limits g.range g.limit g.fits,
    record {
      above = printed_early 1 g.front;
      below = printed_calls (suc (suc (length g.front))) g.back g.steps ++ end;
      whole = g.printed ∙ simp append_assoc;
      place = line_ends_early 1 g.front;
    },
  )

  -- a line behind it
  module _ (us : List (List ℕ)) (p : List ℕ) (vs : List (List ℕ)) (e : g.back ≡ us ++ p ∷ vs) where
    abbrev i : ℕ
    i = suc (length g.front + length us)

    numbers_printed : PrintedAt (replayed xs) i (suc i ∷ numbers_of (line_in p) (calls_after us g.steps))
    numbers_printed = record {
      above = above;
      below = printed_calls (suc (suc i)) vs (calls_behind (line_in p) (calls_after us g.steps)) ++ end;
      whole =
          g.printed
          ∙ ap (λ ys. printed_early 1 g.front ++ fields (n ∷ 0 ∷ 0 ∷ 0 ∷ []) ++ ys ++ finish ++ table)
          (ap (λ ps. printed_calls (suc n) ps g.steps) e ∙ printed_calls_join (suc n) us (p ∷ vs) g.steps
          ∙ ap (λ m. printed_calls (suc n) us g.steps ++ printed_calls m (p ∷ vs) (calls_after us g.steps)) count)
          ∙ simp append_assoc;
      place =
          omega (
            arith,
            count_append line_end (printed_early 1 g.front ++ fields (n ∷ 0 ∷ 0 ∷ 0 ∷ [])) (printed_calls (suc n) us g.steps),
            count_append line_end (printed_early 1 g.front) (fields (n ∷ 0 ∷ 0 ∷ 0 ∷ [])),
            line_ends_early 1 g.front,
            line_ends_fields (n ∷ 0 ∷ 0 ∷ 0 ∷ []),
            line_ends_calls (suc n) us g.steps,
          );
    }
      where
        n : ℕ
        n = suc (length g.front)

        above : List ℕ
        above = printed_early 1 g.front ++ fields (n ∷ 0 ∷ 0 ∷ 0 ∷ []) ++ printed_calls (suc n) us g.steps

        count : suc n + length us ≡ suc i
        count = omega arith

    -- a line that is not read prints its refusal number, a second range line 3, and neither moves
    pub other_lines : ((x : Refusal) → line_in p ≡ Err x → PrintedAt (replayed xs) i (suc i ∷ number x ∷ 0 ∷ 0 ∷ []))
        × ((R M : ℕ) → line_in p ≡ Ok (Range R M) → PrintedAt (replayed xs) i (suc i ∷ 3 ∷ 0 ∷ 0 ∷ []))
    other_lines = (
      λ m q. printed_as (ap (λ l. suc i ∷ numbers_of l (calls_after us g.steps)) q) numbers_printed,
      λ R M q. printed_as (ap (λ l. suc i ∷ numbers_of l (calls_after us g.steps)) q) numbers_printed,
    )

    -- a change line is a call, in their order, and prints what it answered
    pub change_lines : (k : Change) → Asks (line_in p) k → CallAt g i (changes_in us) k
    change_lines k a = go (calls_after us g.steps) c.whole c.asked numbers_printed
      where
        c : Cut g.steps (calls_after us g.steps) (changes_in us) (calls_of_lines (p ∷ vs))
        c = cut us (p ∷ vs) g.steps (g.asked ∙ ap calls_of_lines e)

        asks : (l : Result HistoryLine Refusal) → Asks l k → (called l (calls_of_lines vs) ≡ call_of k ∷ calls_of_lines vs)
            × ((t : Step) (ts : List Step) → numbers_of l (t ∷ ts) ≡ t.answer.refusal ∷ t.answer.moved ∷ t.answer.count ∷ [])
        asks (Err x) b = absurd b
        asks (Ok (Range R M)) b = absurd b
        asks (Ok (Add d c)) b = (ap (λ j. call_of j ∷ calls_of_lines vs) (sym b), λ t ts. refl)
        asks (Ok (Remove d)) b = (ap (λ j. call_of j ∷ calls_of_lines vs) (sym b), λ t ts. refl)
        asks (Ok (Resize d c)) b = (ap (λ j. call_of j ∷ calls_of_lines vs) (sym b), λ t ts. refl)

        go : (ts : List Step) → g.steps ≡ c.earlier ++ ts → calls_of ts ≡ called (line_in p) (calls_of_lines vs)
            → PrintedAt (replayed xs) i (suc i ∷ numbers_of (line_in p) ts) → CallAt g i (changes_in us) k
        go [] w q r = let h = q ∙ (asks (line_in p) a).0 in let z : ◌≡◌ {A = ℕ} 0 1 = cc in absurd (omega arith)
        go (t ∷ ts) w q r =
            let h : calls_of (t ∷ ts) ≡ call_of k ∷ calls_of_lines vs = q ∙ (asks (line_in p) a).0 in
            let f : record { change = t.change; lent = t.lent } ≡ call_of k = cc in
            record {
              earlier = c.earlier;
              call = t;
              others = ts;
              whole = w;
              place = c.size;
              change = ap (λ (x : Call). x.change) f;
              printed = printed_as (ap (λ l. suc i ∷ l) ((asks (line_in p) a).1 t ts)) r;
            }

  -- ---- calls

  -- there are as many calls as change lines behind the range line
  pub as_many_calls : length g.steps ≡ changes_in g.back
  as_many_calls = sym (length_calls g.steps) ∙ ap length g.asked ∙ length_lines g.back

  -- any call t, us the calls before it and vs those after it
  module _ (us : List Step) (t : Step) (vs : List Step) (e : g.steps ≡ us ++ t ∷ vs) where
    kept : Kept first (us ++ t ∷ vs)
    kept = subst (Kept first) e g.kept

    abbrev old : Ledger
    old = ledger_after blank us

    abbrev new : Ledger
    new = feed_step (ledger_after blank us) t

    facts : Facts g.range g.limit (pool_after first us) old t
    facts = facts_at g.range g.limit first blank opening us t vs kept

    -- 'Its list has 4,096 places.'
    pub places_lent_lem : length t.lent ≡ 4096
    places_lent_lem =
        ap length (lent_each us t vs (subst Lent (sym g.asked ∙ ap calls_of e) (lent_lines g.back))) ∙ length-replicate 4096 blank_place

    -- 'A refused line changes nothing'
    pub refused_call : 1 ≤ t.answer.refusal → (t.answer.pool ≡ pool_after first us) × (t.answer.moved ≡ 0) × (t.answer.count ≡ 0)
    refused_call z = let r = refused_stays g.range g.limit (pool_after first us) old t facts z in (r.0, r.2, r.3)

    -- of all devices one alone holds a point, and it is the one in the book
    pub one_owner_each : 1 ≤ length new.entries → (x : ℕ) → x < g.range → (d : ℕ) → holds t.answer.pool d x ≡ eqb d (new.owner x)
    one_owner_each = one_owner g.range g.limit t.answer.pool new facts.agrees

    pub exact_shares : 1 ≤ length new.entries → (d : ℕ) → count_of (holds t.answer.pool d) g.range ≡ share_of g.range new.entries d
    exact_shares = exact_share g.range g.limit t.answer.pool new facts.agrees

    -- the moved points are the points whose owner changed
    pub moved_points : t.answer.refusal ≡ 0 → 1 ≤ length old.entries
        → t.answer.moved ≡ count_of (λ x. not (eqb (old.owner x) (new.owner x))) g.range
    moved_points z n = (moved_count g.range g.limit (pool_after first us) old t facts z n).0

  -- a printed change line: refused, its number and zeros; accepted, 0 and the number of points whose owner changed
  module _ {i j : ℕ} {k : Change} (c : CallAt g i j k) where
    abbrev before : Ledger
    before = ledger_after blank c.earlier

    pub refused_printed : 1 ≤ c.call.answer.refusal → RefusedAt (replayed xs) i c.call.answer.refusal
    refused_printed z =
        let r = refused_call c.earlier c.call c.others c.whole z in
        record { some = z; printed = printed_as (ap₂ (λ m n. suc i ∷ c.call.answer.refusal ∷ m ∷ n ∷ []) r.1 r.2) c.printed }

    pub moved_printed : c.call.answer.refusal ≡ 0 → 1 ≤ length before.entries
        → PrintedAt (replayed xs) i
        (suc i ∷ 0 ∷ count_of (λ x. not (eqb (before.owner x) ((feed_step before c.call).owner x))) g.range ∷ c.call.answer.count ∷ [])
    moved_printed z n =
        let r = moved_points c.earlier c.call c.others c.whole z n in
        printed_as (ap₂ (λ m q. suc i ∷ m ∷ q ∷ c.call.answer.count ∷ []) z r) c.printed

  -- ---- the end

  -- the pool left and the book agree
  pub left_agrees : Agreement g.range g.limit pool_left book
  left_agrees = agreement_end g.range g.limit g.steps first blank g.claim

  -- its range and limit are those of the range line
  pub range_and_limit_left : (pool_left.range ≡ g.range) × (pool_left.limit ≡ g.limit)
  range_and_limit_left = (left_agrees.range, left_agrees.limit)

  -- each of its points lies in exactly one interval, whose owner is the one in the book
  pub owners_left_lem : 1 ≤ length book.entries → (x : ℕ) → x < g.range → OneInterval pool_left x (book.owner x)
  owners_left_lem = left_agrees.owners

  -- and each device in the book owns exactly its share
  pub shares_left : (d : ℕ) → present d book.entries ≡ true → count_of (λ x. eqb d (book.owner x)) g.range ≡ share_of g.range book.entries d
  shares_left = left_agrees.shares

  -- 'Then comes `table`, then start, length and owner of each interval' of the pool left, and nothing else
  pub table_printed_lem : replayed xs ≡ lines_then (heading ++ rows_from pool_left 0 pool_left.intervals)
  table_printed_lem = g.printed ∙ ap lines_then (table_listed pool_left left_valid)

-- ---- a text without an accepted range line

module _ {xs : List ℕ} (g : Unranged xs) where
  abbrev ys : List ℕ
  ys = printed_early 1 (lines_of xs) ++ unfinished (suc (length (lines_of xs))) (last_of (split line_end xs)) ++ heading

  -- `table` stands alone
  pub unranged_table : replayed xs ≡ ys
  unranged_table = g.printed

  pub unranged_bytes : (before after : List ℕ) (r : Result ℕ Refusal) → Transcribed xs before r after → room ≤ length before → length xs ≤ max_text
      → (r ≡ Ok (length ys)) × (after ≡ ys ++ drop (length ys) before)
  unranged_bytes before after r t b l = bytes_written xs before after r t b l ys unranged_table

  pub unranged_pool : (r : PoolAnswer) → Left xs r → length xs ≤ max_text → (r.refusal ≡ 0) × (r.pool ≡ pool_of (fresh 1 1))
  unranged_pool r a l = let w = pool_written xs r a l in (w.0, w.1 ∙ ap pool_of g.left)

  pub unranged_refused : (us : List (List ℕ)) (p : List ℕ) (vs : List (List ℕ)) → lines_of xs ≡ us ++ p ∷ vs
      → RefusedAt (replayed xs) (length us) (early_number (line_in p))
  unranged_refused us p vs e =
      let f : List ℕ = unfinished (suc (length (lines_of xs))) (last_of (split line_end xs)) in
      early_at us p vs (subst Early e g.early) (replayed xs) (f ++ heading)
      (g.printed ∙ append_assoc (printed_early 1 (lines_of xs)) f heading ∙ ap (λ ps. printed_early 1 ps ++ (f ++ heading)) e)
