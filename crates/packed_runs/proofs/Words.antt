-- Laws of runs in arrays.
--
-- words: word_size, word_label, more_size, more_label, less_size, less_label
-- runs: runs_step, runs_end, runs_snoc, runs_same, runs_write (a run stored at the end), runs_last, runs_last_write, runs_first_write,
-- at_total (a run is no longer than the runs)
-- Labelled: labelled_put, labelled_set
-- by_row: by_row_step, by_row_end, owned_outside (what no row of them has), owned_by_row (what a row has)
use mathlib.Core.Path.{◌≡◌, refl, ap, ◌∙◌}
use mathlib.Core.Bool.{Bool, true, false}
use mathlib.Core.List.{List, [], ◌∷◌, ◌++◌}
use Prim.Native.Nat.{ℕ, zero, suc, ◌+◌, ◌-◌, ◌*◌, ◌/◌, ◌%◌, ◌≤◌, ◌<◌}
use native.Mathlib.Omega.{arith}
use native.Mathlib.Nat.{suc-add, add-zero, zero-add}
use native.Mathlib.Numerals.{add-one}
use lib.Dec.{eqb}
use lib.ListN.{length, set}
use lib.Seq.{get_or-set_same, get_or-set_other}
use borrow.Author.Count.{below_more}
use borrow.Author.Tests.{eqb-true, eqb-false, ne_eqb}
use Rattle.slicing.specs.Runs.{◌of◌, one, total, owned}
use Rattle.slicing_core.specs.Rows.{at}
use Rattle.packed_runs.specs.Words.{runs, by_row, Labelled}

-- ---- words

pub word_size : (k x : ℕ) → x < 65536 → (k * 65536 + x) / 65536 ≡ k
word_size k x h = omega arith

pub word_label : (k x : ℕ) → x < 65536 → (k * 65536 + x) % 65536 ≡ x
word_label k x h = omega arith

pub more_size : (w k : ℕ) → (w + k * 65536) / 65536 ≡ w / 65536 + k
more_size w k = omega arith

pub more_label : (w k : ℕ) → (w + k * 65536) % 65536 ≡ w % 65536
more_label w k = omega arith

pub less_size : (w k : ℕ) → k ≤ w / 65536 → (w - k * 65536) / 65536 ≡ w / 65536 - k
less_size w k h = omega arith

pub less_label : (w k : ℕ) → k ≤ w / 65536 → (w - k * 65536) % 65536 ≡ w % 65536
less_label w k h = omega arith

-- ---- a loop from i up to q: the runs that are left

pub runs_step : (xs : List ℕ) (i q : ℕ) → i < q → runs xs i (q - i) ≡ (at xs i / 65536 of at xs i % 65536) ∷ runs xs (i + 1) (q - (i + 1))
runs_step xs i q h =
    let e : q - i ≡ suc (q - (i + 1)) = omega arith in
    rw (e, add-one i)

pub runs_end : (xs : List ℕ) (i q : ℕ) → q ≤ i → runs xs i (q - i) ≡ []
runs_end xs i q h = let e : q - i ≡ 0 = omega arith in rw e

pub runs_snoc : (xs : List ℕ) (i n : ℕ) → runs xs i (n + 1) ≡ runs xs i n ++ ((at xs (i + n) / 65536 of at xs (i + n) % 65536) ∷ [])
runs_snoc xs i zero = rw (add-zero i)
runs_snoc xs i (suc n) =
    let e : i + suc n ≡ suc i + n = omega arith in
    rw (suc-add n 1, e) (ap (λ r. (at xs i / 65536 of at xs i % 65536) ∷ r) (runs_snoc xs (suc i) n))

pub runs_same : (xs ys : List ℕ) (i n : ℕ) → ((j : ℕ) → i ≤ j → j < i + n → at xs j ≡ at ys j) → runs xs i n ≡ runs ys i n
runs_same xs ys i zero h = refl
runs_same xs ys i (suc n) h =
    rw (h i (omega arith) (omega arith), runs_same xs ys (suc i) n (λ j a b. h j (omega arith) (omega arith)))

-- ---- stores

pub runs_write : (xs : List ℕ) (n v : ℕ) → n < length xs → runs (set xs n v) 0 (n + 1) ≡ runs xs 0 n ++ ((v / 65536 of v % 65536) ∷ [])
runs_write xs n v h =
    rw (runs_snoc, zero-add, get_or-set_same xs n v 0 h, runs_same (set xs n v) xs 0 n (λ j a b. get_or-set_other xs n j v 0 (λ e. omega arith)))

pub runs_last : (xs : List ℕ) (n : ℕ) → 1 ≤ n → runs xs 0 n ≡ runs xs 0 (n - 1) ++ ((at xs (n - 1) / 65536 of at xs (n - 1) % 65536) ∷ [])
runs_last xs n h =
    let e : n ≡ n - 1 + 1 = omega arith in
    ap (runs xs 0) e ∙ runs_snoc xs 0 (n - 1) ∙ rw zero-add

pub runs_last_write : (xs : List ℕ) (n v : ℕ) → 1 ≤ n → n ≤ length xs
    → runs (set xs (n - 1) v) 0 n ≡ runs xs 0 (n - 1) ++ ((v / 65536 of v % 65536) ∷ [])
runs_last_write xs n v h b =
    let e : n ≡ n - 1 + 1 = omega arith in
    ap (runs (set xs (n - 1) v) 0) e ∙ runs_write xs (n - 1) v (omega arith)

pub runs_first_write : (xs : List ℕ) (i q v : ℕ) → i < q → i < length xs
    → runs (set xs i v) i (q - i) ≡ (v / 65536 of v % 65536) ∷ runs xs (i + 1) (q - (i + 1))
runs_first_write xs i q v h b =
    rw (
      runs_step (set xs i v) i q h,
      get_or-set_same xs i v 0 b,
      runs_same (set xs i v) xs (i + 1) (q - (i + 1)) (λ j a c. get_or-set_other xs i j v 0 (λ e. omega arith)),
    )

pub at_total : (xs : List ℕ) (i n j : ℕ) → i ≤ j → j < i + n → at xs j / 65536 ≤ total (runs xs i n)
at_total xs i zero j h k = absurd (omega arith)
at_total xs i (suc n) j h k = go (eqb i j) refl (λ m. at_total xs (suc i) n j m (omega arith))
  where
    go : (b : Bool) → eqb i j ≡ b → (suc i ≤ j → at xs j / 65536 ≤ total (runs xs (suc i) n))
        → at xs j / 65536 ≤ at xs i / 65536 + total (runs xs (suc i) n)
    go true e ih = omega (arith, ap (λ z. at xs z / 65536) (eqb-true i j e))
    go false e ih = omega (arith, ih (omega (arith, eqb-false i j e)))

-- ---- labels

pub labelled_put : (k : ℕ) (xs : List ℕ) (n v : ℕ) → n < length xs → v % 65536 < k → Labelled k xs n → Labelled k (set xs n v) (n + 1)
labelled_put k xs n v b h l =
    below_more (λ j. at (set xs n v) j % 65536 < k) n
    (λ j m. rw (get_or-set_other xs n j v 0 (λ e. omega arith)) (l j m))
    (rw (get_or-set_same xs n v 0 b) h)

pub labelled_set : (k : ℕ) (xs : List ℕ) (n i v : ℕ) → i < length xs → v % 65536 ≡ at xs i % 65536 → Labelled k xs n → Labelled k (set xs i v) n
labelled_set k xs n i v b h l j m = go (eqb j i) refl
  where
    go : (t : Bool) → eqb j i ≡ t → at (set xs i v) j % 65536 < k
    go true e =
        let z : j ≡ i = eqb-true j i e in
        let f : at xs j % 65536 < k = l j m in
        rw (z, get_or-set_same xs i v 0 b, h) (rw z at f)
    go false e = rw (get_or-set_other xs i j v 0 (eqb-false j i e)) (l j m)

-- ---- a run for each row

pub by_row_step : (xs : List ℕ) (i n : ℕ) → i < n → by_row xs i (n - i) ≡ (at xs i of i) ∷ by_row xs (i + 1) (n - (i + 1))
by_row_step xs i n h =
    let e : n - i ≡ suc (n - (i + 1)) = omega arith in
    rw (e, add-one i)

pub by_row_end : (xs : List ℕ) (i n : ℕ) → n ≤ i → by_row xs i (n - i) ≡ []
by_row_end xs i n h = let e : n - i ≡ 0 = omega arith in rw e

pub owned_outside : (xs : List ℕ) (d i n : ℕ) → ((j : ℕ) → i ≤ j → j < i + n → d ≡ j → ⊥) → owned d (by_row xs i n) ≡ 0
owned_outside xs d i zero h = refl
owned_outside xs d i (suc n) h =
    rw (ne_eqb d i (h i (omega arith) (omega arith))) (omega (arith, owned_outside xs d (suc i) n (λ j a b. h j (omega arith) (omega arith))))

pub owned_by_row : (xs : List ℕ) (d i n : ℕ) → i ≤ d → d < i + n → owned d (by_row xs i n) ≡ at xs d
owned_by_row xs d i zero h k = absurd (omega arith)
owned_by_row xs d i (suc n) h k = go (eqb d i) refl (λ m. owned_by_row xs d (suc i) n m (omega arith))
  where
    go : (t : Bool) → eqb d i ≡ t → (suc i ≤ d → owned d (by_row xs (suc i) n) ≡ at xs d) → one t * at xs i + owned d (by_row xs (suc i) n) ≡ at xs d
    go true e ih =
        let z : d ≡ i = eqb-true d i e in
        omega (arith, ap (at xs) z, owned_outside xs d (suc i) n (λ j a b k. omega arith))
    go false e ih = omega (arith, ih (omega (arith, eqb-false d i e)))
