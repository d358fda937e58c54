-- The loop of `quotas`: what it keeps, and its step.
--
--   Quoted has due n release queue sum i      of n rows, i were passed; the arrays hold what these release and need
--
-- Quoted: quoted_step, quoted_released, quoted_queue
use mathlib.Core.Path.{◌≡◌, refl, ap, ◌∙◌}
use mathlib.Core.List.{List}
use Prim.Native.Nat.{ℕ, zero, suc, ◌+◌, ◌-◌, ◌*◌, ◌^◌, ◌≤◌, ◌<◌}
use native.Mathlib.Omega.{arith}
use lib.ListN.{length, set, length-set}
use lib.Seq.{get_or-set_same, get_or-set_other}
use borrow.Author.Count.{below_more}
use Rattle.slicing.specs.Runs.{Run, owned}
use Rattle.slicing.specs.SixSteps.{release as releaseOf, needs, reductions}
use Rattle.slicing_core.specs.Rows.{at}
use Rattle.packed_runs.specs.Words.{runs, by_row}
use Rattle.packed_runs.proofs.Words.{word_size, word_label, by_row_step, owned_by_row}

-- a queue that has the needs of the rows
needs_rows : (queue due : List ℕ) (has : List (Run ℕ)) (i n : ℕ) → i + n ≤ 65536
    → ((j : ℕ) → i ≤ j → j < i + n → at queue j ≡ (at due j - owned j has) * 65536 + j) → runs queue i n ≡ needs has (by_row due i n)
needs_rows queue due has i zero b h = refl
needs_rows queue due has i (suc n) b h =
    rw (
      h i (omega arith) (omega arith),
      word_size (at due i - owned i has) i (omega arith),
      word_label (at due i - owned i has) i (omega arith),
      needs_rows queue due has (suc i) n (omega arith) (λ j a c. h j (omega arith) (omega arith)),
    )

pub record Quoted (has due : List ℕ) (n : ℕ) (release queue : List ℕ) (sum i : ℕ) : Type 0 where
  pub release_size : length release ≡ 256
  pub queue_size : length queue ≡ 256
  pub passed : i ≤ n
  pub released : (d : ℕ) → d < i → at release d ≡ at has d - at due d
  pub queued : (d : ℕ) → d < i → at queue d ≡ (at due d - at has d) * 65536 + d
  pub reduced : sum + reductions (by_row has i (n - i)) (by_row due 0 n) ≡ reductions (by_row has 0 n) (by_row due 0 n)
  pub small : sum ≤ i * 2 ^ 48

module _ {has due : List ℕ} {n : ℕ} {release queue : List ℕ} {sum i : ℕ} (w : Quoted has due n release queue sum i) where
  pub quoted_step : (over under : ℕ) → i < n → n ≤ 256 → at has i < 2 ^ 48 → over ≡ at has i - at due i → under ≡ at due i - at has i
      → Quoted has due n (set release i over) (set queue i (under * 65536 + i)) (sum + over) (i + 1)
  quoted_step over under h few b e f = record {
    release_size = length-set release i over ∙ w.release_size;
    queue_size = length-set queue i (under * 65536 + i) ∙ w.queue_size;
    passed = omega arith;
    released = below_more (λ d. at (set release i over) d ≡ at has d - at due d) i
        (λ d l. get_or-set_other release i d over 0 (λ z. omega arith) ∙ w.released d l)
        (get_or-set_same release i over 0 (omega (arith, w.release_size)) ∙ e);
    queued = below_more (λ d. at (set queue i (under * 65536 + i)) d ≡ (at due d - at has d) * 65536 + d) i
        (λ d l. get_or-set_other queue i d (under * 65536 + i) 0 (λ z. omega arith) ∙ w.queued d l)
        (get_or-set_same queue i (under * 65536 + i) 0 (omega (arith, w.queue_size)) ∙ rw f);
    reduced =
        omega (
          arith,
          w.reduced,
          ap (λ r. reductions r (by_row due 0 n)) (by_row_step has i n h),
          owned_by_row due i 0 n (omega arith) (omega arith),
        );
    small = omega (arith, w.small);
  }

  pub quoted_released : n ≤ i → (d : ℕ) → d < n → at release d ≡ releaseOf (by_row has 0 n) (by_row due 0 n) d
  quoted_released h d l =
      rw (owned_by_row has d 0 n (omega arith) (omega arith), owned_by_row due d 0 n (omega arith) (omega arith)) (w.released d (omega arith))

  pub quoted_queue : n ≤ 256 → n ≤ i → runs queue 0 n ≡ needs (by_row has 0 n) (by_row due 0 n)
  quoted_queue few h =
      needs_rows queue due (by_row has 0 n) 0 n (omega arith)
      (λ j a b. rw (owned_by_row has j 0 n (omega arith) (omega arith)) (w.queued j (omega arith)))
