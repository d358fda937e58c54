-- The outcomes of `history::capacity`, `line`, `apply`, `transcript` and `pool_after`.
--
--   Reads r n vs              the line's answer r has the number n and the values vs
--   Asks l k                  the line l asks for the change k
--   Unchanged n h r           r answers n and zeros, and the history is as it was
-- capacity: capacity_shapeless (1), capacity_outside (2), capacity_known
-- line: line_shapeless (1), line_far (2), line_said (LineRules.antt says which line is which)
-- apply: apply_refused (the line's 1 or 2), apply_early (3), apply_late (3), apply_invalid (2), apply_stops (every refusal of a change);
-- apply_range, apply_passes
-- transcript: transcript_short (17), transcript_long (`too long`), transcript_printed
-- pool_after: left_long (2), left_pool
use mathlib.Core.Path.{◌≡◌, sym, ap, ◌∙◌}
use mathlib.Core.Bool.{true, false}
use mathlib.Core.List.{List, [], ◌∷◌, ◌++◌}
use Prim.Native.Nat.{ℕ, ◌≤◌, ◌<◌}
use lib.ListN.{length, drop}
use borrow.Author.Tests.{lt-ltb, le-ltb}
use Rattle.slicing.specs.Changes.{fresh, Change, add, remove, resize, change}
use Rattle.slicing.specs.Devices.{Device}
use Rattle.slicing.specs.Runs.{Run}
use Rattle.slicing.specs.SixSteps.{Move, points}
use Rattle.pools.specs.Pools.{state_of, pool_of, ValidPool}
use Rattle.pools.specs.declared.PoolAnswer.{PoolAnswer}
use Rattle.std.specs.Prelude.{Some, None, Result, Ok, Err}
use Rattle.refusals.specs.Replies.{number, reply_of}
use Rattle.refusals.specs.declared.Refusal.{Refusal}
use Rattle.refusals.specs.declared.Refusal.TheVariants as Refusals
use Rattle.history_numbers.specs.Capacities.{CapacityRead}
use Rattle.history_lines.specs.Lines.{line_reply, line_in, LineRead}
use Rattle.history_numbers.specs.Text.{capacity_in}
use Rattle.history_lines.specs.declared.lines.HistoryLine.{HistoryLine}
use Rattle.history_lines.specs.declared.lines.HistoryLine.TheVariants.{Range, Add, Remove, Resize}
use Rattle.history_steps.specs.Promises.{result_line, refused, applied_line, Applied}
use Rattle.history_steps.specs.Steps.{places}
use Rattle.history_steps.specs.declared.applying.History.{History}
use Rattle.history_steps.specs.declared.applying.LineResult.{LineResult}
use Rattle.history.specs.Histories.{pool_after}
use Rattle.history.specs.Promises.{Transcribed, Left}
use Rattle.history.specs.Replay.{replayed, transcript}
use Rattle.guarantees.proofs.ChangeRules.{Stops, Passes, stops, passes}
use Rattle.guarantees.proofs.Changes.{with_table}
use Rattle.guarantees.proofs.Conditions.{Inside, inside_false, inside_true, Decided, within, without, Says, says}
use Rattle.guarantees.proofs.LineRules.{Shapes, range_line, add_line, remove_line_lem, resize_line, Far, Shapeless, shaped, far_two, shapeless_one}
use Rattle.guarantees.proofs.Pools.{WithoutDevices}

-- ---- capacities

module _ (w : List ℕ) (r : Result ℕ Refusal) (k : CapacityRead w r) where
  -- a word that is no capacity
  pub capacity_shapeless : capacity_in w ≡ None → (r ≡ Err Refusals.Shapeless) × Says (reply_of r) 1 0
  capacity_shapeless e = (k.answer ∙ rw e, says (k.reply ∙ rw e))

  module _ (c : ℕ) (e : capacity_in w ≡ Some c) where
    -- outside 1 to 16,000,000 thousandths of a TB
    pub capacity_outside : (Inside 16000000 c → ⊥) → (r ≡ Err Refusals.Outside) × Says (reply_of r) 2 0
    capacity_outside h = let f = inside_true 16000000 c h in (k.answer ∙ rw (e, f), says (k.reply ∙ rw (e, f)))

    pub capacity_known : Inside 16000000 c → (r ≡ Ok c) × Says (reply_of r) 0 c
    capacity_known i = let f = inside_false 16000000 c i in (k.answer ∙ rw (e, f), says (k.reply ∙ rw (e, f)))

-- ---- lines

abbrev pub Reads : Result HistoryLine Refusal → ℕ → List ℕ → Type 0
Reads r n vs = ((line_reply r).number ≡ n) × ((line_reply r).values ≡ vs)

-- the numbers that a line gives
abbrev pub values_of : HistoryLine → List ℕ
values_of (Range R M) = R ∷ M ∷ []
values_of (Add d c) = d ∷ c ∷ []
values_of (Remove d) = d ∷ []
values_of (Resize d c) = d ∷ c ∷ []

module _ (xs : List ℕ) (r : Result HistoryLine Refusal) (k : LineRead xs r) where
  reads : (l : Result HistoryLine Refusal) → line_in xs ≡ l → (r ≡ l) × (line_reply r ≡ line_reply l)
  reads l e = (k.answer ∙ e, k.reply ∙ ap line_reply e)

  pub line_shapeless : Shapeless xs → (r ≡ Err Refusals.Shapeless) × Reads r 1 []
  line_shapeless h =
      let e = reads (Err Refusals.Shapeless) (shapeless_one xs h) in
      (e.0, (ap (λ u. u.number) e.1, ap (λ u. u.values) e.1))

  pub line_far : Far xs → (r ≡ Err Refusals.Outside) × Reads r 2 []
  line_far h =
      let e = reads (Err Refusals.Outside) (far_two xs h) in
      (e.0, (ap (λ u. u.number) e.1, ap (λ u. u.values) e.1))

  said_reads : {l : HistoryLine} → Shapes xs l → line_reply r ≡ line_reply (Ok l) → Reads r 0 (values_of l)
  said_reads (range_line w a b i j) e = (ap (λ u. u.number) e, ap (λ u. u.values) e)
  said_reads (add_line w a b i j) e = (ap (λ u. u.number) e, ap (λ u. u.values) e)
  said_reads (remove_line_lem w a i) e = (ap (λ u. u.number) e, ap (λ u. u.values) e)
  said_reads (resize_line w a b i j) e = (ap (λ u. u.number) e, ap (λ u. u.values) e)

  pub line_said : (l : HistoryLine) → Shapes xs l → (r ≡ Ok l) × Reads r 0 (values_of l)
  line_said l h = let e = reads (Ok l) (shaped xs h) in (e.0, said_reads h e.1)

-- ---- a line applied

pub data Asks : HistoryLine → Change → Type 0 where
  adds : {d c : ℕ} → Asks (Add d c) (add d c)
  removes : {d : ℕ} → Asks (Remove d) (remove d)
  resizes : {d c : ℕ} → Asks (Resize d c) (resize d c)

abbrev pub Unchanged : ℕ → History → LineResult → Type 0
Unchanged n h r = (r.refusal ≡ n) × (r.moved ≡ 0) × (r.count ≡ 0) × (r.history.begun ≡ h.begun) × (r.history.pool ≡ h.pool)

unchanged : (n : ℕ) (h : History) (r : LineResult) → r ≡ refused h n → Unchanged n h r
unchanged n h r e =
    (ap (λ u. u.refusal) e, ap (λ u. u.moved) e, ap (λ u. u.count) e, ap (λ u. u.history.begun) e, ap (λ u. u.history.pool) e)

-- what the rest of the promise answers to a change
asked_late : (h : History) (f : Change → LineResult) {l : HistoryLine} {k : Change} → h.begun ≡ true → Asks l k → applied_line h f (Ok l) ≡ f k
asked_late h f b adds = rw b
asked_late h f b removes = rw b
asked_late h f b resizes = rw b

asked_early : (h : History) (f : Change → LineResult) {l : HistoryLine} {k : Change} → h.begun ≡ false → Asks l k → applied_line h f (Ok l) ≡ refused h 3
asked_early h f b adds = rw b
asked_early h f b removes = rw b
asked_early h f b resizes = rw b

module _ (h : History) (xs : List ℕ) (r : LineResult) (k : Applied h xs r) where
  -- the same whether the history's pool is valid or not
  same_line : Decided (ValidPool h.pool) → (g : LineResult) → ((f : Change → LineResult) → applied_line h f (line_in xs) ≡ g) → r ≡ g
  same_line (within v) g e = k.valid v ∙ e (λ x. result_line (change (state_of h.pool) places x))
  same_line (without v) g e = k.invalid v ∙ e (λ x. refused h 2)

  module _ (v : Decided (ValidPool h.pool)) where
    -- a line of no shape, or with a number outside its limits
    pub apply_refused : (x : Refusal) → line_in xs ≡ Err x → Unchanged (number x) h r
    apply_refused x e = unchanged (number x) h r (same_line v _ (λ f. rw e))

    -- a change line with no range line accepted before
    pub apply_early : h.begun ≡ false → (l : HistoryLine) (c : Change) → line_in xs ≡ Ok l → Asks l c → Unchanged 3 h r
    apply_early b l c e a = unchanged 3 h r (same_line v _ (λ f. ap (applied_line h f) e ∙ asked_early h f b a))

    -- a range line after an accepted one
    pub apply_late : h.begun ≡ true → (R M : ℕ) → line_in xs ≡ Ok (Range R M) → Unchanged 3 h r
    apply_late b R M e = unchanged 3 h r (same_line v _ (λ f. rw (e, b)))

    pub apply_range : h.begun ≡ false → (R M : ℕ) → line_in xs ≡ Ok (Range R M)
        → (r.refusal ≡ 0) × (r.moved ≡ 0) × (r.count ≡ 0) × (r.history.begun ≡ true) × WithoutDevices R M r.history.pool
    unfolding pool_of
    apply_range b R M e =
        let g : LineResult = record { refusal = 0; moved = 0; count = 0; history = record { begun = true; pool = pool_of (fresh R M) } } in
        let a = same_line v g (λ f. rw (e, b)) in
        (ap (λ u. u.refusal) a, ap (λ u. u.moved) a, ap (λ u. u.count) a, ap (λ u. u.history.begun) a, ap (λ u. u.history.pool) a)

  module _ (b : h.begun ≡ true) (l : HistoryLine) (c : Change) (s : line_in xs ≡ Ok l) (a : Asks l c) where
    answered : (f : Change → LineResult) → applied_line h f (line_in xs) ≡ f c
    answered f = ap (applied_line h f) s ∙ asked_late h f b a

    -- a change of a pool that is not valid
    pub apply_invalid : (ValidPool h.pool → ⊥) → Unchanged 2 h r
    apply_invalid v = unchanged 2 h r (k.invalid v ∙ answered (λ x. refused h 2))

    module _ (v : ValidPool h.pool) where
      done : r ≡ result_line (change (state_of h.pool) places c)
      done = k.valid v ∙ answered (λ x. result_line (change (state_of h.pool) places x))

      pub apply_stops : (n : ℕ) → Stops (state_of h.pool) places c n → Unchanged n h r
      apply_stops n t =
          let e = done ∙ ap result_line (stops (state_of h.pool) places t) in (
            ap (λ u. u.refusal) e,
            ap (λ u. u.moved) e,
            ap (λ u. u.count) e,
            ap (λ u. u.history.begun) e ∙ sym b,
            ap (λ u. u.history.pool) e ∙ v.same,
          )

      pub apply_passes : (es : List Device) (table : List (Run ℕ)) (ms : List Move) → Passes (state_of h.pool) places c es table ms
          → (r.refusal ≡ 0) × (r.moved ≡ points ms) × (r.count ≡ length ms) × (r.history.begun ≡ true)
          × (r.history.pool ≡ with_table h.pool es table)
      unfolding state_of
      apply_passes es table ms t =
          let e = done ∙ ap result_line (passes (state_of h.pool) places t) in
          (ap (λ u. u.refusal) e, ap (λ u. u.moved) e, ap (λ u. u.count) e, ap (λ u. u.history.begun) e, ap (λ u. u.history.pool) e)

-- ---- whole texts

-- `too long` and a line end
abbrev pub too_long_bytes : List ℕ
too_long_bytes = 0x74 ∷ 0x6f ∷ 0x6f ∷ 0x20 ∷ 0x6c ∷ 0x6f ∷ 0x6e ∷ 0x67 ∷ 0x0a ∷ []

module _ (xs before : List ℕ) (r : Result ℕ Refusal) (after : List ℕ) (k : Transcribed xs before r after) where
  -- a buffer without room for every transcript: it stays
  pub transcript_short : length before < 3145728 → (r ≡ Err Refusals.ShortBuffer) × (after ≡ before) × Says (reply_of r) 17 0
  transcript_short h = let e = lt-ltb (length before) 3145728 h in (k.answer ∙ rw e, k.buffer ∙ rw e, says (k.reply ∙ rw e))

  module _ (l : 3145728 ≤ length before) where
    -- more than 65,536 bytes
    pub transcript_long : 65536 < length xs → (r ≡ Ok 9) × (after ≡ too_long_bytes ++ drop 9 before) × Says (reply_of r) 0 9
    unfolding transcript
    transcript_long h =
        let e = le-ltb (length before) 3145728 l in
        let f = lt-ltb 65536 (length xs) h in
        (k.answer ∙ rw (e, f), k.buffer ∙ rw (e, f), says (k.reply ∙ rw (e, f)))

    -- what `slices` prints, and its length; the bytes past it stay
    pub transcript_printed : length xs ≤ 65536
        → (r ≡ Ok (length (replayed xs))) × (after ≡ replayed xs ++ drop (length (replayed xs)) before)
        × Says (reply_of r) 0 (length (replayed xs))
    unfolding transcript
    transcript_printed h =
        let e = le-ltb (length before) 3145728 l in
        let f = le-ltb 65536 (length xs) h in
        (k.answer ∙ rw (e, f), k.buffer ∙ rw (e, f), says (k.reply ∙ rw (e, f)))

module _ (xs : List ℕ) (r : PoolAnswer) (k : Left xs r) where
  -- more than 65,536 bytes: a fresh pool with R = 1 and M = 1
  pub left_long : 65536 < length xs → (r.refusal ≡ 2) × WithoutDevices 1 1 r.pool
  unfolding pool_of
  left_long h = let e = rw (lt-ltb 65536 (length xs) h) at k in (ap (λ a. a.refusal) e, ap (λ a. a.pool) e)

  -- the pool that the accepted lines leave
  pub left_pool : length xs ≤ 65536 → (r.refusal ≡ 0) × (r.pool ≡ pool_of (pool_after xs))
  left_pool h = let e = rw (le-ltb 65536 (length xs) h) at k in (ap (λ a. a.refusal) e, ap (λ a. a.pool) e)
