-- The printed table of a pool, and the transcript's answer.
--
--   table_rows_lem           the intervals of a valid pool are those that its arrays give
--   table_place, table_put   what `put_table` answers and leaves
--   transcript_reply_answer, transcribed_answer   what the answer of a transcript is says what its reply is
--   transcribed_long, transcribed_whole   two answers of `transcript`
use mathlib.Core.Path.{◌≡◌, refl, sym, ap, ap₂, ◌∙◌}
use mathlib.Core.Bool.{Bool, true, false, cond}
use mathlib.Core.List.{List, [], ◌∷◌, ◌++◌, append_assoc}
use Prim.Native.Nat.{ℕ, ◌+◌, ◌≤◌, ◌<◌}
use native.Mathlib.Omega.{arith}
use lib.Dec.{ltb}
use lib.ListN.{length, take, drop, length-append, length-take, take-append-drop}
use borrow.Author.Tests.{lt-ltb, le-ltb}
use Rattle.pools.specs.Pools.{state_of, ValidPool}
use Rattle.pools.specs.declared.Pool.{Pool}
use Rattle.pools.proofs.PoolLaws.{intervals_rows}
use Rattle.pools.proofs.ValidParts.{valid_coalesced, valid_covers}
use Rattle.std.specs.Prelude.{Result, Ok, Err}
use Rattle.refusals.specs.Replies.{reply_of, replied, declined}
use Rattle.refusals.specs.declared.Refusal.{Refusal}
use Rattle.refusals.specs.declared.Refusal.TheVariants.{ShortBuffer}
use Rattle.slicing_core.specs.Rows.{interval_rows}
use Rattle.slicing_core.proofs.Fronts.{front_put}
use Rattle.history_numbers.specs.Text.{line_end}
use Rattle.history_printing.specs.Printing.{printed_rows}
use Rattle.history.specs.Promises.{room, Transcribed}
use Rattle.history.specs.Replay.{printed_table, max_text, too_long, replayed, transcript}

-- the line `table`
abbrev pub heading : List ℕ
heading = 0x74 ∷ 0x61 ∷ 0x62 ∷ 0x6c ∷ 0x65 ∷ line_end ∷ []

module _ (p : Pool) (v : ValidPool p) where
  abbrev pub rows_of : List ℕ
  rows_of = printed_rows (interval_rows p.starts p.owners p.range 0 p.intervals)

  pub table_rows_lem : heading ++ rows_of ≡ printed_table (state_of p)
  unfolding state_of
  table_rows_lem = ap (λ is. heading ++ printed_rows is) (sym (intervals_rows p.starts p.owners p.range p.intervals (valid_coalesced p v) (valid_covers p v)))

  module _ (out out1 out2 : List ℕ) (place : ℕ) (l : place ≤ length out) where
    pub table_place : (n m : ℕ) → n ≡ place + 6 → m ≡ n + length rows_of → m ≡ place + length (printed_table (state_of p))
    table_place n m e f = omega (arith, ap length table_rows_lem)

    pub table_put : out1 ≡ take place out ++ heading ++ drop (place + 6) out → (n : ℕ) → n ≡ place + 6
        → out2 ≡ take n out1 ++ rows_of ++ drop (n + length rows_of) out1
        → out2 ≡ take place out ++ printed_table (state_of p) ++ drop (place + length (printed_table (state_of p))) out
    table_put a n e b =
        let done : List ℕ = take place out ++ heading in
        let s : length (take place out) ≡ place = omega (arith, length-take place out) in
        let t : length done ≡ place + 6 = omega (arith, length-append (take place out) heading) in
        let first = front_put out (take place out) heading out out1 place 6 s (sym (take-append-drop place out)) a in
        let second = front_put out done rows_of out1 out2 (place + 6) (length rows_of) t first (b ∙ ap (λ i. take i out1 ++ rows_of ++ drop (i + length rows_of) out1) e) in
        let k : place + 6 + length rows_of ≡ place + length (printed_table (state_of p)) = omega (arith, ap length table_rows_lem) in
        second ∙ ap₂ (λ xs i. xs ++ drop i out) (append_assoc (take place out) heading rows_of ∙ ap (λ ys. take place out ++ ys) table_rows_lem) k

-- ---- the answer

transcript_reply_answer : (a : Bool) (n : ℕ) → reply_of (cond a (Err ShortBuffer) (Ok n)) ≡ cond a (declined 17) (replied n)
transcript_reply_answer true n = refl
transcript_reply_answer false n = refl

module _ (xs before : List ℕ) where
  transcribed_answer : (r : Result ℕ Refusal) (after : List ℕ) → r ≡ cond (ltb (length before) room) (Err ShortBuffer) (Ok (length (transcript xs)))
      → after ≡ cond (ltb (length before) room) before (transcript xs ++ drop (length (transcript xs)) before) → Transcribed xs before r after
  transcribed_answer r after e f = record {
    answer = e;
    reply = ap reply_of e ∙ transcript_reply_answer (ltb (length before) room) (length (transcript xs));
    buffer = f;
  }

  module _ (h : room ≤ length before) where
    printed : (ys : List ℕ) → transcript xs ≡ ys → (n : ℕ) (after : List ℕ) → n ≡ length ys → after ≡ ys ++ drop (length ys) before
        → Transcribed xs before (Ok n) after
    printed ys t n after e f =
        let k = le-ltb (length before) room h in
        transcribed_answer (Ok n) after (ap Ok e ∙ rw (k, t)) (f ∙ rw (k, t))

    pub transcribed_long : max_text < length xs → (n : ℕ) (after : List ℕ) → n ≡ length too_long → after ≡ too_long ++ drop (length too_long) before
        → Transcribed xs before (Ok n) after
    unfolding transcript
    transcribed_long l = printed too_long (rw (lt-ltb max_text (length xs) l))

    pub transcribed_whole : length xs ≤ max_text → (n : ℕ) (after : List ℕ) → n ≡ length (replayed xs)
        → after ≡ replayed xs ++ drop (length (replayed xs)) before → Transcribed xs before (Ok n) after
    unfolding transcript
    transcribed_whole l = printed (replayed xs) (rw (le-ltb max_text (length xs) l))
