-- The calls for copies: what they leave, from what the calls beneath them answered.
--
-- answered_by (what a block's answer leaves); one_copied (one block), many_copied (many)
use mathlib.Core.Path.{◌≡◌, refl, sym, ap, ◌∙◌}
use mathlib.Core.List.{List, ◌∷◌, ◌++◌}
use Prim.Native.Nat.{ℕ, ◌*◌, ◌/◌, ◌≤◌}
use native.Mathlib.Omega.{arith}
use lib.ListN.{length, drop}
use lib.Seq.{append_snoc}
use Rattle.pools.specs.Pools.{state_of}
use Rattle.pools.specs.declared.PoolAnswer.{PoolAnswer}
use Rattle.lookups.specs.Copies.{Outcome}
use Rattle.lookups.specs.Promises.{Answered, CopiedIn}
use Rattle.lookups.specs.declared.CopiesAnswer.{CopiesAnswer}
use Rattle.lookups.specs.declared.Counters.{Counters}
use Rattle.lookup_numbers.specs.Told.{counters_in, tally_of}
use Rattle.images.specs.Promises.{ReadAs}
use Rattle.images.proofs.OnImages.{on_image_accepted, on_image_valid}
use Rattle.image_lookups.specs.Promises.{CopiesLeft, outcome_of, counted_by, copied_by, CopiedOne, rows_for, counted_for, CopiedMany}
use Rattle.image_lookups.proofs.CopiedRows.{answered_arrays, row_in_answered}

left_same : {n m : ℕ} {t u w v : List ℕ} → n ≡ m → t ≡ u → w ≡ v
    → ◌≡◌ {A = CopiesLeft} (record { number = n; tally = t; rows = w }) (record { number = m; tally = u; rows = v })
left_same e f g = rw (e, f, g)

-- ---- one block

pub answered_by : (u : Outcome) (t t' w w' : List ℕ) (c : Counters) (r : CopiesAnswer) → Answered u c r → c ≡ counters_in t
    → w' ≡ r.refusal ∷ r.owners ++ r.probes ∷ drop 10 w → t' ≡ tally_of r.counters t
    → record { number = r.refusal; tally = t'; rows = w' } ≡ copied_by t w u
answered_by u t t' w w' c r a e f g =
    left_same a.number (g ∙ ap (λ d. tally_of d t) (a.counters ∙ ap (counted_by u) e))
    (f ∙ sym (append_snoc (r.refusal ∷ r.owners) r.probes (drop 10 w)) ∙ ap (λ row. row ++ drop 10 w) (row_in_answered u c r a))

module _ (xs : List ℕ) (block k : ℕ) (t w : List ℕ) where
  module _ (made : PoolAnswer) (i : ReadAs xs made) (l : 2 ≤ length t) (m : 10 ≤ length w) where
    pub one_copied : (c : Counters) (r : CopiesAnswer) (t' w' : List ℕ) → made.refusal ≤ 0 → c ≡ counters_in t
        → CopiedIn made.pool.starts made.pool.owners made.pool.intervals made.pool.devices made.pool.range block k c r
        → w' ≡ r.refusal ∷ r.owners ++ r.probes ∷ drop 10 w → t' ≡ tally_of r.counters t
        → CopiedOne xs block k t w (record { number = r.refusal; tally = t'; rows = w' })
    one_copied c r t' w' z e a f g = record {
      no_tally = λ h. absurd (omega (arith, h, l));
      no_row = λ h. absurd (omega (arith, h, m));
      room = λ p q.
          on_image_accepted xs _ _ _ made i z
          (answered_by (outcome_of (state_of made.pool) k block) t t' w w' c r (answered_arrays made.pool (on_image_valid xs made i z) block k c r a) e f g);
    }

-- ---- many blocks

module _ (xs bs : List ℕ) (k : ℕ) (t w : List ℕ) where
  module _ (made : PoolAnswer) (i : ReadAs xs made) (l : 2 ≤ length t) (m : length bs ≤ length w / 10) where
    pub many_copied : (c c' : Counters) (t' w' : List ℕ) → made.refusal ≤ 0 → c ≡ counters_in t → c' ≡ counted_for (state_of made.pool) k bs c
        → w' ≡ rows_for (state_of made.pool) k bs ++ drop (10 * length bs) w → t' ≡ tally_of c' t
        → CopiedMany xs bs k t w (record { number = 0; tally = t'; rows = w' })
    many_copied c c' t' w' z e a f g = record {
      no_tally = λ h. absurd (omega (arith, h, l));
      no_rows = λ h. absurd (omega (arith, h, m));
      room = λ p q.
          on_image_accepted xs _ _ _ made i z
          (left_same refl (g ∙ ap (λ d. tally_of d t) (a ∙ ap (counted_for (state_of made.pool) k bs) e)) f);
    }
