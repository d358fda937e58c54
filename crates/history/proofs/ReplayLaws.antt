-- The replay of a history: what lines leave, and texts one after the other.
--
-- a line: refused_stays (a refused line leaves the reading), fresh_valid, applied_valid (every line leaves a valid pool)
-- lines: read_all_join, read_all_valid, pool_after_valid
-- refused lines: refused_dropped (one left out), accepted_only (all left out)
-- texts: reading_join (two texts joined), same_text, same_accepted (the accepted lines alone decide), text_accepted (a text without its
-- refused lines)
-- what is printed: printed_lines_join, replay_join, replay_text (lines and then the table), replayed_text, replayed_complete;
-- printed_join, replayed_join, replayed_both (two texts joined); transcript_replayed
use mathlib.Core.Path.{◌≡◌, refl, sym, ap, ◌∙◌}
use mathlib.Core.Bool.{Bool, true, false, cond}
use mathlib.Core.List.{List, [], ◌∷◌, ◌++◌, append_assoc}
use Prim.Native.Nat.{ℕ, suc, ◌+◌, ◌≤◌}
use native.Mathlib.Omega.{arith}
use lib.Dec.{ltb}
use lib.ListN.{length, length-append}
use borrow.Author.Tests.{ltb-true, le-ltb}
use Rattle.std.specs.Prelude.{Ok, Err}
use Rattle.std.specs.Prelude as Prelude
use Rattle.refusals.specs.declared.Refusal.{Refusal}
use Rattle.pools.specs.Pools.{pool_of}
use Rattle.slicing.specs.Changes.{State, fresh, Change, add, remove, resize}
use Rattle.slicing.specs.Limits.{max_range, max_limit}
use Rattle.slicing.specs.Validity.{Valid}
use Rattle.slicing.proofs.Changes.{valid_change, change_refused}
use Rattle.slicing.proofs.Claims.{valid_fresh}
use Rattle.history_lines.specs.declared.lines.HistoryLine.{HistoryLine}
use Rattle.history_lines.specs.declared.lines.HistoryLine.TheVariants.{Range, Add, Remove, Resize}
use Rattle.history_lines.specs.Lines.{range_outside, line_in}
use Rattle.history_numbers.specs.Text.{line_end, split}
use Rattle.history_lines.proofs.LineLimits.{line_fits, range_limits}
use Rattle.history_steps.specs.Steps.{Reading, start, Result, places, changed, applied}
use Rattle.history.specs.Histories.{last_of, lines_of, text_of, Whole, Complete, read_all, pool_after, accepted_lines, printed_lines, unfinished}
use Rattle.history.specs.Replay.{printed_line, printed_table, replay, max_text, replayed, transcript}
use Rattle.history.proofs.TextLines.{parts_some, parts_last, lines_join, parts_join, parts_complete, complete_join, lines_whole, lines_text_of}

-- ---- a line

abbrev Stays : Reading → Result → Type 0
Stays h r = 1 ≤ r.number → r.after ≡ h

stays_changed : (b : Bool) (s : State) (k : Change) → Stays (record { begun = b; pool = s }) (changed (record { begun = b; pool = s }) k)
stays_changed true s k e = ap (λ t. record { begun = true; pool = t }) (change_refused s places k e).state
stays_changed false s k e = refl

stays_ranged : (b : Bool) (s : State) (R M : ℕ) → Stays (record { begun = b; pool = s }) (applied (record { begun = b; pool = s }) (Ok (Range R M)))
stays_ranged true s R M e = refl
stays_ranged false s R M e = absurd (omega (arith, e))

pub refused_stays : (h : Reading) (l : Prelude.Result HistoryLine Refusal) → 1 ≤ (applied h l).number → (applied h l).after ≡ h
refused_stays h (Err x) = λ e. refl
refused_stays h (Ok (Range R M)) = stays_ranged h.begun h.pool R M
refused_stays h (Ok (Add d c)) = stays_changed h.begun h.pool (add d c)
refused_stays h (Ok (Remove d)) = stays_changed h.begun h.pool (remove d)
refused_stays h (Ok (Resize d c)) = stays_changed h.begun h.pool (resize d c)

pub fresh_valid : (R M : ℕ) → range_outside R M ≡ false → Valid (fresh R M)
fresh_valid R M e =
    let l : (1 ≤ R) × (R ≤ max_range) × (1 ≤ M) × (M ≤ max_limit) = range_limits R M e in
    valid_fresh R M l.0 l.1 l.2 l.3

module _ (s : State) (v : Valid s) where
  changed_valid : (b : Bool) (k : Change) → Valid (changed (record { begun = b; pool = s }) k).after.pool
  changed_valid true k = valid_change s v places k
  changed_valid false k = v

  ranged_valid : (b : Bool) (R M : ℕ) → range_outside R M ≡ false → Valid (applied (record { begun = b; pool = s }) (Ok (Range R M))).after.pool
  ranged_valid true R M e = v
  ranged_valid false R M e = fresh_valid R M e

pub applied_valid : (h : Reading) → Valid h.pool → (xs : List ℕ) → Valid (applied h (line_in xs)).after.pool
applied_valid h v xs = go (line_in xs) refl
  where
    go : (l : Prelude.Result HistoryLine Refusal) → line_in xs ≡ l → Valid (applied h l).after.pool
    go (Err x) e = v
    go (Ok (Range R M)) e = ranged_valid h.pool v h.begun R M (line_fits xs R M e)
    go (Ok (Add d c)) e = changed_valid h.pool v h.begun (add d c)
    go (Ok (Remove d)) e = changed_valid h.pool v h.begun (remove d)
    go (Ok (Resize d c)) e = changed_valid h.pool v h.begun (resize d c)

-- ---- lines

pub read_all_join : (h : Reading) (ps qs : List (List ℕ)) → read_all h (ps ++ qs) ≡ read_all (read_all h ps) qs
read_all_join h [] qs = refl
read_all_join h (p ∷ ps) qs = read_all_join (applied h (line_in p)).after ps qs

pub read_all_valid : (h : Reading) → Valid h.pool → (ps : List (List ℕ)) → Valid (read_all h ps).pool
read_all_valid h v [] = v
read_all_valid h v (p ∷ ps) = read_all_valid (applied h (line_in p)).after (applied_valid h v p) ps

pub pool_after_valid : (xs : List ℕ) → Valid (pool_after xs)
pool_after_valid xs = read_all_valid start (fresh_valid 1 1 refl) (lines_of xs)

-- ---- refused lines

-- 'A refused line changes nothing and reading goes on.'
pub refused_dropped : (h : Reading) (ps : List (List ℕ)) (p : List ℕ) (qs : List (List ℕ)) → 1 ≤ (applied (read_all h ps) (line_in p)).number
    → read_all h (ps ++ p ∷ qs) ≡ read_all h (ps ++ qs)
refused_dropped h ps p qs e =
    read_all_join h ps (p ∷ qs) ∙ ap (λ g. read_all g qs) (refused_stays (read_all h ps) (line_in p) e) ∙ sym (read_all_join h ps qs)

pub accepted_only : (h : Reading) (ps : List (List ℕ)) → read_all h (accepted_lines h ps) ≡ read_all h ps
accepted_only h [] = refl
accepted_only h (p ∷ ps) = go (ltb 0 (applied h (line_in p)).number) refl (accepted_only (applied h (line_in p)).after ps)
  where
    g : Reading
    g = (applied h (line_in p)).after

    go : (t : Bool) → ltb 0 (applied h (line_in p)).number ≡ t → read_all g (accepted_lines g ps) ≡ read_all g ps
        → read_all h (cond t (accepted_lines g ps) (p ∷ accepted_lines g ps)) ≡ read_all g ps
    go true e r =
        ap (λ k. read_all k (accepted_lines g ps)) (sym (refused_stays h (line_in p) (ltb-true 0 (applied h (line_in p)).number e))) ∙ r
    go false e r = r

accepted_whole : (h : Reading) (ps : List (List ℕ)) → Whole ps → Whole (accepted_lines h ps)
accepted_whole h [] w = tt
accepted_whole h (p ∷ ps) w = go (ltb 0 (applied h (line_in p)).number) (accepted_whole g ps w.1)
  where
    g : Reading
    g = (applied h (line_in p)).after

    go : (t : Bool) → Whole (accepted_lines g ps) → Whole (cond t (accepted_lines g ps) (p ∷ accepted_lines g ps))
    go true r = r
    go false r = (w.0, r)

-- ---- the pool after a text

-- a text and then another is both joined
pub reading_join : (xs ys : List ℕ) → Complete xs → read_all start (lines_of (xs ++ ys)) ≡ read_all (read_all start (lines_of xs)) (lines_of ys)
reading_join xs ys c = ap (read_all start) (lines_join xs ys c) ∙ read_all_join start (lines_of xs) (lines_of ys)

pub same_text : (xs ys : List ℕ) → xs ≡ ys → pool_of (pool_after xs) ≡ pool_of (pool_after ys)
same_text xs ys e = ap (λ zs. pool_of (pool_after zs)) e

pub same_accepted : (xs ys : List ℕ) → accepted_lines start (lines_of xs) ≡ accepted_lines start (lines_of ys)
    → pool_of (pool_after xs) ≡ pool_of (pool_after ys)
same_accepted xs ys e =
    ap (λ h. pool_of h.pool)
    (sym (accepted_only start (lines_of xs)) ∙ ap (read_all start) e ∙ accepted_only start (lines_of ys))

pub text_accepted : (xs : List ℕ) → pool_after (text_of (accepted_lines start (lines_of xs))) ≡ pool_after xs
text_accepted xs =
    let ps : List (List ℕ) = accepted_lines start (lines_of xs) in
    ap (λ qs. (read_all start qs).pool) (lines_text_of ps (accepted_whole start (lines_of xs) (lines_whole xs)))
    ∙ ap (λ h. h.pool) (accepted_only start (lines_of xs))

-- ---- what is printed

pub printed_lines_join : (h : Reading) (n : ℕ) (ps qs : List (List ℕ))
    → printed_lines h n (ps ++ qs) ≡ printed_lines h n ps ++ printed_lines (read_all h ps) (n + length ps) qs
printed_lines_join h n [] qs = let e : n ≡ n + 0 = omega arith in ap (λ m. printed_lines h m qs) e
printed_lines_join h n (p ∷ ps) qs =
    let e : suc n + length ps ≡ n + suc (length ps) = omega arith in
    ap (λ r. printed_line n (applied h (line_in p)) ++ r)
    (printed_lines_join g (suc n) ps qs ∙ ap (λ m. printed_lines g (suc n) ps ++ printed_lines (read_all g ps) m qs) e)
    ∙ sym (append_assoc (printed_line n (applied h (line_in p))) (printed_lines g (suc n) ps) (printed_lines (read_all g ps) (n + suc (length ps)) qs))
  where
    g : Reading
    g = (applied h (line_in p)).after

-- a part with another behind it is a complete line
pub replay_cons : (h : Reading) (n : ℕ) (p : List ℕ) (ps : List (List ℕ)) → 1 ≤ length ps
    → replay h n (p ∷ ps) ≡ printed_line n (applied h (line_in p)) ++ replay (applied h (line_in p)).after (suc n) ps
replay_cons h n p [] l = absurd (omega arith)
replay_cons h n [] (q ∷ ps) l = refl
replay_cons h n (b ∷ p) (q ∷ ps) l = refl

pub replay_join : (h : Reading) (n : ℕ) (ps qs : List (List ℕ)) → 1 ≤ length qs
    → replay h n (ps ++ qs) ≡ printed_lines h n ps ++ replay (read_all h ps) (n + length ps) qs
replay_join h n [] qs l = let e : n ≡ n + 0 = omega arith in ap (λ m. replay h m qs) e
replay_join h n (p ∷ ps) qs l =
    let e : suc n + length ps ≡ n + suc (length ps) = omega arith in
    replay_cons h n p (ps ++ qs) (omega (arith, length-append ps qs))
    ∙ ap (λ r. printed_line n (applied h (line_in p)) ++ r)
    (replay_join g (suc n) ps qs l ∙ ap (λ m. printed_lines g (suc n) ps ++ replay (read_all g ps) m qs) e)
    ∙ sym (append_assoc (printed_line n (applied h (line_in p))) (printed_lines g (suc n) ps) (replay (read_all g ps) (n + suc (length ps)) qs))
  where
    g : Reading
    g = (applied h (line_in p)).after

replay_last : (h : Reading) (n : ℕ) (p : List ℕ) → replay h n (p ∷ []) ≡ unfinished n p ++ printed_table h.pool
replay_last h n [] = refl
replay_last h n (b ∷ p) = refl

-- 'Each line gives ..', 'Then comes `table`'
pub replay_text : (h : Reading) (n : ℕ) (xs : List ℕ)
    → replay h n (split line_end xs)
    ≡ printed_lines h n (lines_of xs) ++ unfinished (n + length (lines_of xs)) (last_of (split line_end xs)) ++ printed_table (read_all h (lines_of xs)).pool
replay_text h n xs =
    ap (replay h n) (parts_last xs) ∙ replay_join h n (lines_of xs) (last_of (split line_end xs) ∷ []) (omega arith)
    ∙ ap (λ r. printed_lines h n (lines_of xs) ++ r) (replay_last g m (last_of (split line_end xs)))
    ∙ sym (append_assoc (printed_lines h n (lines_of xs)) (unfinished m (last_of (split line_end xs))) (printed_table g.pool))
  where
    g : Reading
    g = read_all h (lines_of xs)

    m : ℕ
    m = n + length (lines_of xs)

pub replayed_text : (xs : List ℕ)
    → replayed xs
    ≡ printed_lines start 1 (lines_of xs) ++ unfinished (1 + length (lines_of xs)) (last_of (split line_end xs)) ++ printed_table (pool_after xs)
unfolding replayed
replayed_text xs = replay_text start 1 xs

pub replay_complete : (h : Reading) (n : ℕ) (xs : List ℕ) → Complete xs
    → replay h n (split line_end xs) ≡ printed_lines h n (lines_of xs) ++ printed_table (read_all h (lines_of xs)).pool
replay_complete h n xs c = ap (replay h n) (parts_complete xs c) ∙ replay_join h n (lines_of xs) ([] ∷ []) (omega arith)

pub replayed_complete : (xs : List ℕ) → Complete xs → replayed xs ≡ printed_lines start 1 (lines_of xs) ++ printed_table (pool_after xs)
unfolding replayed
replayed_complete xs c = replay_complete start 1 xs c

-- the lines of a second text are counted on; its last one may be unfinished
pub replayed_join : (xs ys : List ℕ) → Complete xs
    → replayed (xs ++ ys) ≡ printed_lines start 1 (lines_of xs) ++ replay (read_all start (lines_of xs)) (1 + length (lines_of xs)) (split line_end ys)
unfolding replayed
replayed_join xs ys c =
    ap (replay start 1) (parts_join xs ys c) ∙ replay_join start 1 (lines_of xs) (split line_end ys) (parts_some line_end ys)

pub printed_join : (xs ys : List ℕ) → Complete xs
    → printed_lines start 1 (lines_of (xs ++ ys))
    ≡ printed_lines start 1 (lines_of xs) ++ printed_lines (read_all start (lines_of xs)) (1 + length (lines_of xs)) (lines_of ys)
printed_join xs ys c = ap (printed_lines start 1) (lines_join xs ys c) ∙ printed_lines_join start 1 (lines_of xs) (lines_of ys)

pub replayed_both : (xs ys : List ℕ) → Complete xs → Complete ys
    → replayed (xs ++ ys)
    ≡ printed_lines start 1 (lines_of xs) ++ printed_lines (read_all start (lines_of xs)) (1 + length (lines_of xs)) (lines_of ys)
    ++ printed_table (pool_after (xs ++ ys))
replayed_both xs ys c d =
    replayed_complete (xs ++ ys) (complete_join xs ys c d) ∙ ap (λ r. r ++ printed_table (pool_after (xs ++ ys))) (printed_join xs ys c)

pub transcript_replayed : (xs : List ℕ) → length xs ≤ max_text → transcript xs ≡ replayed xs
unfolding transcript
transcript_replayed xs l = rw (le-ltb max_text (length xs) l)
