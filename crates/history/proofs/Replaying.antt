-- The replay of a text: the invariant of `replay`, and its steps.
--
--   Replaying text out₀ h line from place out     before the line at place `from`, with the reading h, `place` bytes are printed
--   Gives h l n m k                                the numbers n, m, k are those that the line l gives on the reading h
--   Stepped h l r before after                      r is what the line l, read or refused by its text, gives on the reading h
--
-- Replaying: replaying_none, replaying_room, replaying_step, replaying_table, replaying_end
-- the pool that is printed: closed_valid, closed_state
-- Stepped: stepped_refused (a line refused by its text), stepped_advanced (one that is read); stepped_accepted, stepped_declined (what it leaves)
use mathlib.Core.Bool.{Bool, true}
use mathlib.Core.Path.{◌≡◌, refl, sym, ap, ap₂, ◌∙◌, subst}
use mathlib.Core.List.{List, [], ◌∷◌, ◌++◌, append_assoc}
use Prim.Native.Nat.{ℕ, ◌+◌, ◌*◌, ◌≤◌, ◌<◌}
use native.Mathlib.Omega.{arith}
use native.Mathlib.Numerals.{add-one}
use lib.ListN.{length, take, drop, length-append, drop_of_length-le}
use Rattle.std.specs.Prelude.{Result, Ok, Err}
use Rattle.refusals.specs.Replies.{number}
use Rattle.refusals.specs.declared.Refusal.{Refusal}
use Rattle.pools.specs.Pools.{state_of, pool_of, ValidPool}
use Rattle.pools.specs.declared.Pool.{Pool}
use Rattle.pools.proofs.PoolLaws.{state_of_pool_of, valid_pool_pool_of}
use Rattle.pools.proofs.ValidParts.{valid_limited}
use Rattle.opened.specs.declared.Opened.{Opened}
use Rattle.opened.specs.OpenPools.{Open}
use Rattle.slicing.specs.Changes.{State}
use Rattle.slicing.specs.Validity.{Valid}
use Rattle.slicing_core.proofs.Fronts.{front_put}
use Rattle.history_lines.specs.declared.lines.HistoryLine.{HistoryLine}
use Rattle.history_lines.specs.declared.lines.Part.{Part}
use Rattle.history_lines.specs.Cuts.{part_at}
use Rattle.history_numbers.specs.Text.{line_end, split}
use Rattle.history_lines.proofs.TextParts.{part_above, part_within}
use Rattle.history_printing.specs.Printing.{fields}
use Rattle.history_printing.proofs.Decimals.{length_fields4}
use Rattle.history_printing.proofs.PutBehind.{put_room}
use Rattle.history_steps.specs.Advances.{reading_in, Advanced, refused, accepted}
use Rattle.history_steps.specs.declared.advancing.Step.{Step}
use Rattle.history_steps.specs.Steps.{Reading, start, applied}
use Rattle.history.specs.Replay.{printed_table, replay, replayed}
use Rattle.history.proofs.ReplayBounds.{Small, applied_small}
use Rattle.history.proofs.ReplayParts.{replay_part}

-- the pool of a valid state
module _ (s : State) (v : Valid s) (p : Pool) (e : p ≡ pool_of s) where
  pub closed_valid : ValidPool p
  closed_valid = subst ValidPool (sym e) (valid_pool_pool_of s v)

  pub closed_state : state_of p ≡ s
  closed_state = ap state_of e ∙ state_of_pool_of s v

pub record Gives (h : Reading) (l : Result HistoryLine Refusal) (n m k : ℕ) : Type 0 where
  pub number : n ≡ (applied h l).number
  pub moved : m ≡ (applied h l).moved
  pub count : k ≡ (applied h l).count

-- a number by what it is
pub gives_as : {h : Reading} {l : Result HistoryLine Refusal} {n r m k : ℕ} → n ≡ r → Gives h l r m k → Gives h l n m k
gives_as e g = record { number = e ∙ g.number; moved = g.moved; count = g.count }

-- what a line gives on the reading h, its table in an array, refused by its text or not
pub data Stepped (h : Reading) (l : Result HistoryLine Refusal) (r : Result Step Refusal) (before after : List ℕ) : Type 0 where
  declines : (e : Refusal) → r ≡ Err e → Gives h l (number e) 0 0 → h ≡ (applied h l).after → after ≡ before → Stepped h l r before after
  steps : (s : Step) → r ≡ Ok s → Gives h l 0 s.moved s.count → reading_in true s.pool after ≡ (applied h l).after → Open s.pool after
      → Stepped h l r before after

gives_result : (h : Reading) (l : Result HistoryLine Refusal) {n m k : ℕ} {g : Reading} → applied h l ≡ record { number = n; moved = m; count = k; after = g }
    → Gives h l n m k × (g ≡ (applied h l).after)
gives_result h l e = (record { number = rw e; moved = rw e; count = rw e }, rw e)

pub stepped_refused : {h : Reading} {l : Result HistoryLine Refusal} {e : Refusal} {table : List ℕ} → l ≡ Err e → Stepped h l (Err e) table table
stepped_refused {h} {l} {e} q = let g = gives_result h l (ap (applied h) q) in declines e refl g.0 g.1 refl

pub stepped_advanced : {h : Reading} {l : Result HistoryLine Refusal} {m : HistoryLine} {r : Result Step Refusal} {before after : List ℕ} → l ≡ Ok m
    → Advanced h (Ok m) r before after → Stepped h l r before after
stepped_advanced {h} {l} q (refused e is a t) = let g = gives_result h l (ap (applied h) q ∙ a) in declines e is g.0 g.1 t
stepped_advanced {h} {l} q (accepted s is a w) = let g = gives_result h l (ap (applied h) q ∙ a) in steps s is g.0 g.1 w

-- what it leaves, where it is accepted, and where it is refused
pub stepped_accepted : {h : Reading} {l : Result HistoryLine Refusal} {r : Result Step Refusal} {before after : List ℕ} {s : Step} → Stepped h l r before after → r ≡ Ok s
    → Gives h l 0 s.moved s.count × (reading_in true s.pool after ≡ (applied h l).after) × Open s.pool after
stepped_accepted (declines e is g a t) q = absurd (cc)
stepped_accepted {h} {l} {after = after} (steps s is g a w) q =
    subst (λ (x : Step). Gives h l 0 x.moved x.count × (reading_in true x.pool after ≡ (applied h l).after) × Open x.pool after) (cc) (g, a, w)

pub stepped_declined : {b : Bool} {o : Opened} {l : Result HistoryLine Refusal} {r : Result Step Refusal} {before after : List ℕ} {e : Refusal}
    → Stepped (reading_in b o before) l r before after → r ≡ Err e → Open o before
    → Gives (reading_in b o before) l (number e) 0 0 × (reading_in b o after ≡ (applied (reading_in b o before) l).after) × Open o after
stepped_declined {b} {o} {l} {before = before} (declines e is g a t) q w =
    let h = reading_in b o before in
    (subst (λ x. Gives h l (number x) 0 0) (cc) g, ap (reading_in b o) t ∙ a, subst (Open o) (sym t) w)
stepped_declined (steps s is g a x) q w = absurd (cc)

module _ (text : List ℕ) where
  -- what is still to be printed from place `from` on
  abbrev later : Reading → ℕ → ℕ → List ℕ
  later h line from = replay h line (split line_end (drop from text))

  pub record Replaying (out₀ : List ℕ) (h : Reading) (line from place : ℕ) (out : List ℕ) : Type 0 where
    pub same : length out ≡ length out₀
    pub done : List ℕ
    pub size : length done ≡ place
    pub written : out ≡ done ++ drop place out₀
    pub whole : done ++ later h line from ≡ replayed text
    pub lines : line ≤ from + 1
    pub room : place ≤ 44 * from
    pub within : from ≤ length text

  module _ (out₀ : List ℕ) where
    pub replaying_none : (h : Reading) → h ≡ start → Replaying out₀ h 1 0 0 out₀
    unfolding replayed
    replaying_none h e = record {
      same = refl;
      done = [];
      size = refl;
      written = refl;
      whole = ap (λ (g : Reading). replay g 1 (split line_end text)) e;
      lines = omega arith;
      room = omega arith;
      within = omega arith;
    }

    module _ {h : Reading} {line from place : ℕ} {out : List ℕ} (w : Replaying out₀ h line from place out) (v : Valid h.pool) (t : length text ≤ 65536)
        (o : 3145728 ≤ length out₀) where
      module _ (p : Part) (e : p ≡ part_at text from) (l : from < length text) (n m k : ℕ) (a : Gives h p.said n m k) (b : n < 4294967296) where
        -- the printed line
        abbrev bytes : List ℕ
        bytes = fields (line ∷ n ∷ m ∷ k ∷ [])

        line_printed : later h line from ≡ bytes ++ later (applied h p.said).after (line + 1) p.next
        line_printed = replay_part text from p e l h line ∙ rw (a.number, a.moved, a.count, add-one line)

        few : length bytes ≤ 44
        few =
            let s : Small (applied h p.said) = applied_small h v p.said in
            length_fields4 line n m k (omega (arith, w.lines)) (omega arith) (omega (arith, a.moved, s.moved)) (omega (arith, a.count, s.count))

        -- what `put_line` asks
        pub replaying_room : place + length bytes ≤ length out
        replaying_room = omega (arith, few, w.room, w.same)

        pub replaying_step : (h' : Reading) (place' : ℕ) (out' : List ℕ) → h' ≡ (applied h p.said).after → place' ≡ place + length bytes
            → out' ≡ take place out ++ bytes ++ drop (place + length bytes) out → Replaying out₀ h' (line + 1) p.next place' out'
        replaying_step h' place' out' g i q = record {
          same = put_room out out' bytes place replaying_room q ∙ w.same;
          done = w.done ++ bytes;
          size = length-append w.done bytes ∙ omega (arith, w.size);
          written = rw i (front_put out₀ w.done bytes out out' place (length bytes) w.size w.written q);
          whole = rw g (append_assoc w.done bytes _ ∙ ap (λ ys. w.done ++ ys) (sym line_printed) ∙ w.whole);
          lines = omega (arith, w.lines, part_above text from p e l);
          room = omega (arith, few, w.room, part_above text from p e l);
          within = part_within text from p e l;
        }

      -- the pool that is printed
      module _ (p : Pool) (e : p ≡ pool_of h.pool) where
        -- the table comes behind the last line
        later_end : length text ≤ from → later h line from ≡ printed_table (state_of p)
        later_end b =
            ap (λ xs. replay h line (split line_end xs)) (drop_of_length-le text {i = from} b) ∙ ap printed_table (sym (closed_state h.pool v p e))

        pub replaying_table : place + 6 + 33 * p.intervals ≤ length out
        replaying_table =
            let l = valid_limited p (closed_valid h.pool v p e) in
            omega (arith, w.room, w.within, w.same, l.fits, l.room_most)

        pub replaying_end : length text ≤ from → let table = printed_table (state_of p) in (place' : ℕ) (out' : List ℕ)
            → place' ≡ place + length table → out' ≡ take place out ++ table ++ drop (place + length table) out
            → (place' ≡ length (replayed text)) × (out' ≡ replayed text ++ drop (length (replayed text)) out₀)
        replaying_end b place' out' i q =
            let table : List ℕ = printed_table (state_of p) in
            let all : w.done ++ table ≡ replayed text = ap (λ ys. w.done ++ ys) (sym (later_end b)) ∙ w.whole in
            let n : place + length table ≡ length (replayed text) = ap (λ i. i + length table) (sym w.size) ∙ sym (length-append w.done table) ∙ ap length all in (
              i ∙ n,
              front_put out₀ w.done table out out' place (length table) w.size w.written q
                  ∙ ap₂ (λ xs i. xs ++ drop i out₀) all n,
            )
