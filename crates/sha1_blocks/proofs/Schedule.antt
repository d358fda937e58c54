-- The message schedule of section 6.1.2, step 1.
--
--   length_schedule    how many words it has
--   schedule_block     W_0 to W_15 are the block's
--   schedule_next      each later word comes from the words before it, as the standard has it
--   extended_more      the words W_16 to W_(15 + m) formed in place, and n further ones
--   extended_schedule  in an array of eighty whose first sixteen are the block's, they are the words of the schedule
use Rattle.std.proofs.Common.{◌≡◌, ℕ, zero, suc, ◌+◌, ◌-◌, ◌<◌, ◌≤◌, List, [], length, get_or, take, sym, refl, ◌∙◌, add-zero, add_assoc, add-suc, arith, length-append, length-set, take_all, get_or-take, take-suc-set}
use native.Mathlib.Decide.{ℕ_discrete}
use lib.ListN.{get_or-append}
use lib.Seq.{get_or_at}
use Rattle.sha1_blocks.specs.Fips180.{next, schedule}
use Rattle.sha1_blocks.specs.InPlace.{extended}

-- where two lists have the same words before place t, W_t comes out the same
next_same : (W W' : List ℕ) (t : ℕ) → 16 ≤ t → ((j : ℕ) → j < t → get_or W j 0 ≡ get_or W' j 0) → next W t ≡ next W' t
next_same W W' t l same =
    rw (same (t - 3) (omega arith), same (t - 8) (omega arith), same (t - 14) (omega arith), same (t - 16) (omega arith))

-- ---- each word is the standard's

module _ (M : List ℕ) (sixteen : length M ≡ 16) where
  pub length_schedule : (n : ℕ) → length (schedule M n) ≡ 16 + n
  unfolding schedule
  length_schedule zero = sixteen
  length_schedule (suc n) = rw (length-append) (omega (arith, length_schedule n))

  -- one word more leaves the words before it
  schedule_suc : (n j : ℕ) → j < 16 + n → get_or (schedule M (suc n)) j 0 ≡ get_or (schedule M n) j 0
  unfolding schedule
  schedule_suc n j h = get_or-append (schedule M n) _ 0 j (omega (arith, length_schedule n))

  schedule_last : (n : ℕ) → get_or (schedule M (suc n)) (16 + n) 0 ≡ next (schedule M n) (16 + n)
  unfolding schedule
  schedule_last n = get_or_at (schedule M n) _ [] 0 (16 + n) (length_schedule n)

  pub schedule_block : (n t : ℕ) → t < 16 → get_or (schedule M n) t 0 ≡ get_or M t 0
  unfolding schedule
  schedule_block zero t h = refl
  schedule_block (suc n) t h = schedule_suc n t (omega arith) ∙ schedule_block n t h

  pub schedule_next : (n t : ℕ) → 16 ≤ t → t < 16 + n → get_or (schedule M n) t 0 ≡ next (schedule M n) t
  schedule_next zero t l h = absurd (omega arith)
  schedule_next (suc n) t l h =
      elim (ℕ_discrete t (16 + n)) [
        | yes e ↦ rw e (schedule_last n) ∙ longer
        | no e ↦ schedule_suc n t (omega arith) ∙ schedule_next n t l (omega arith) ∙ longer
      ]
    where
      longer : next (schedule M n) t ≡ next (schedule M (suc n)) t
      longer = next_same (schedule M n) (schedule M (suc n)) t l (λ j k. sym (schedule_suc n j (omega arith)))

-- ---- formed in place

length_extended : (w : List ℕ) (t n : ℕ) → length (extended w t n) ≡ length w
unfolding extended
length_extended w t zero = refl
length_extended w t (suc n) = length-set (extended w t n) (t + n) _ ∙ length_extended w t n

extended_add : (w : List ℕ) (t m n : ℕ) → extended w t (m + n) ≡ extended (extended w t m) (t + m) n
unfolding extended
extended_add w t m zero = rw add-zero
extended_add w t m (suc n) = rw (add-suc m n, extended_add w t m n, add_assoc t m n)

pub extended_more : (w : List ℕ) {w' w'' : List ℕ} (m n : ℕ) → w' ≡ extended w 16 m → w'' ≡ extended w' (16 + m) n → w'' ≡ extended w 16 (m + n)
extended_more w m n e g = rw (extended_add w 16 m n, ← e) g

take_extended : (w : List ℕ) (n : ℕ) → 16 + n ≤ length w → take (16 + n) (extended w 16 n) ≡ schedule (take 16 w) n
unfolding extended schedule
take_extended w zero h = refl
take_extended w (suc n) h =
    let w' : List ℕ = extended w 16 n in
    rw (
      add-suc 16 n,
      take-suc-set w' (16 + n) (next w' (16 + n)) (omega (arith, length_extended w 16 n)),
      ← next_same (take (16 + n) w') w' (16 + n) (omega arith) (λ j k. get_or-take (16 + n) w' j 0 k),
      take_extended w n (omega arith),
    )

pub extended_schedule : (M w : List ℕ) → length w ≡ 80 → take 16 w ≡ M → extended w 16 64 ≡ schedule M 64
extended_schedule M w eighty begun =
    sym (take_all 80 (extended w 16 64) (omega (arith, length_extended w 16 64))) ∙ rw (← begun) (take_extended w 64 (omega arith))
