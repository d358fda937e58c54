-- Rows of answers.
--
--   row_in r                              the row of an answer
--   Many s k bs before c rows after i     the rows and the counters of the first i blocks of bs
--
-- answered_arrays (the answer for a block, from what is promised of the arrays of a valid pool); row_in_answered
-- Many: many_more, many_all
use mathlib.Core.Path.{◌≡◌, refl, sym, ap, ◌∙◌, subst}
use mathlib.Core.List.{List, [], ◌∷◌, ◌++◌, append_assoc, append-nil}
use Prim.Native.Nat.{ℕ, ◌+◌, ◌*◌, ◌-◌, ◌≤◌, ◌<◌}
use native.Mathlib.Numerals.{add-one}
use native.Mathlib.Omega.{arith}
use lib.ListN.{length, get_or, take, drop, length-append}
use lib.Seq.{take_all, take-suc, append_snoc}
use borrow.Rule.Slice.PartMut.{same_len_mid}
use Rattle.slicing.specs.Changes.{State}
use Rattle.slicing.specs.Runs.{owner_at}
use Rattle.slicing_core.proofs.Fronts.{part_put}
use Rattle.slicing_core.proofs.Rows.{length_device_rows}
use Rattle.pools.specs.Pools.{state_of, ValidPool}
use Rattle.pools.specs.declared.Pool.{Pool}
use Rattle.lookup_core.specs.Probes.{point_of}
use Rattle.lookups.specs.Copies.{Outcome, copies_of}
use Rattle.lookups.specs.Promises.{Answered, CopiedIn}
use Rattle.lookups.specs.declared.CopiesAnswer.{CopiesAnswer}
use Rattle.lookups.specs.declared.Counters.{Counters}
use Rattle.lookups.proofs.Promised.{copied_in}
use Rattle.lookup_numbers.specs.Told.{row_of}
use Rattle.image_lookups.specs.Promises.{outcome_of, counted_by, rows_for, counted_for}

-- ---- one block

outcome_state : (p : Pool) (block k : ℕ)
    → copies_of (λ t. owner_at (state_of p).table (point_of block t p.range)) p.devices k ≡ outcome_of (state_of p) k block
unfolding state_of
outcome_state p block k = rw (length_device_rows p.ids p.capacities 0 p.devices)

pub answered_arrays : (p : Pool) → ValidPool p → (block k : ℕ) (c : Counters) (r : CopiesAnswer)
    → CopiedIn p.starts p.owners p.intervals p.devices p.range block k c r → Answered (outcome_of (state_of p) k block) c r
answered_arrays p v block k c r a = subst (λ (u : Outcome). Answered u c r) (outcome_state p block k) ((copied_in p v block k c r a).valid v)

-- the row of an answer
abbrev pub row_in : CopiesAnswer → List ℕ
row_in r = r.refusal ∷ r.owners ++ r.probes ∷ []

pub row_in_answered : (u : Outcome) (c : Counters) (r : CopiesAnswer) → Answered u c r → row_in r ≡ row_of u
row_in_answered u c r a = rw (a.number, a.owners, a.probes)

-- ---- many blocks

rows_for_snoc : (s : State) (k : ℕ) (bs : List ℕ) (b : ℕ) → rows_for s k (bs ++ b ∷ []) ≡ rows_for s k bs ++ row_of (outcome_of s k b)
rows_for_snoc s k [] b = append-nil (row_of (outcome_of s k b))
rows_for_snoc s k (d ∷ bs) b =
    ap (λ ys. row_of (outcome_of s k d) ++ ys) (rows_for_snoc s k bs b) ∙ sym (append_assoc (row_of (outcome_of s k d)) (rows_for s k bs) (row_of (outcome_of s k b)))

counted_for_snoc : (s : State) (k : ℕ) (bs : List ℕ) (b : ℕ) (c : Counters) → counted_for s k (bs ++ b ∷ []) c ≡ counted_by (outcome_of s k b) (counted_for s k bs c)
counted_for_snoc s k [] b c = refl
counted_for_snoc s k (d ∷ bs) b c = counted_for_snoc s k bs b (counted_by (outcome_of s k d) c)

pub record Many (s : State) (k : ℕ) (bs before : List ℕ) (c : Counters) (rows : List ℕ) (after : Counters) (i : ℕ) : Type 0 where
  pub passed : i ≤ length bs
  pub size : length rows ≡ length before
  pub done : length (rows_for s k (take i bs)) ≡ 10 * i
  pub written : rows ≡ rows_for s k (take i bs) ++ drop (10 * i) before
  pub counted : after ≡ counted_for s k (take i bs) c

module _ (s : State) (k : ℕ) (bs before : List ℕ) (c : Counters) (rows : List ℕ) (after : Counters) (i : ℕ) (m : Many s k bs before c rows after i) where
  pub many_all : length bs ≤ i → (rows ≡ rows_for s k bs ++ drop (10 * length bs) before) × (after ≡ counted_for s k bs c)
  many_all h =
      let e : i ≡ length bs = omega (arith, m.passed) in
      let f : take i bs ≡ bs = take_all i bs h in
      (rw (f, e) at m.written, rw f at m.counted)

  module _ (h : i < length bs) (room : 10 * length bs ≤ length before) where
    module _ (r : CopiesAnswer) (l : length r.owners ≡ 8) (a : Answered (outcome_of s k (get_or bs i 0)) after r) where
      one_more : take (i + 1) bs ≡ take i bs ++ get_or bs i 0 ∷ []
      one_more = rw (add-one i) (take-suc bs i 0 h)

      rows_more : rows_for s k (take i bs) ++ row_in r ≡ rows_for s k (take (i + 1) bs)
      rows_more = rw (one_more, rows_for_snoc s k (take i bs) (get_or bs i 0), row_in_answered (outcome_of s k (get_or bs i 0)) after r a)

      pub many_more : (part : List ℕ) → length part ≡ length (take (length rows - 10 * i) (drop (10 * i) rows))
          → part ≡ r.refusal ∷ r.owners ++ r.probes ∷ drop 10 (take (length rows - 10 * i) (drop (10 * i) rows))
          → Many s k bs before c (take (10 * i) rows ++ (part ++ drop (length rows - 10 * i) (drop (10 * i) rows))) r.counters (i + 1)
      many_more part n e =
          let rest : List ℕ = drop 10 (take (length rows - 10 * i) (drop (10 * i) rows)) in
          let ten : 10 * i + 10 ≡ 10 * (i + 1) = omega arith in
          record {
            passed = omega arith;
            size = same_len_mid (10 * i) (length rows - 10 * i) rows part n ∙ m.size;
            done = ap length (sym rows_more) ∙ length-append (rows_for s k (take i bs)) (row_in r) ∙ omega (arith, m.done, length-append r.owners (r.probes ∷ []));
            written =
                part_put before (rows_for s k (take i bs)) (row_in r) rows part (10 * i) 10 m.done m.written (e ∙ sym (append_snoc (r.refusal ∷ r.owners) r.probes rest))
                ∙ rw (rows_more, ten);
            counted = rw (one_more, counted_for_snoc s k (take i bs) (get_or bs i 0) c) (a.counters ∙ ap (counted_by (outcome_of s k (get_or bs i 0))) m.counted);
          }
