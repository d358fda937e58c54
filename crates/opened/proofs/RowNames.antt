-- Rows named by an array of rising ids, and the runs of an array renamed.
--
--   named names n x     the name of row x of the n; a row past them gets a number that is no id, so that no two rows have one name
--
-- runs: length_relabel, length_runs, relabel_runs and relabel_by_row (two renamings that agree on the labels), label_at, owned_labels (a row past
-- the labels has no point)
-- named: named_row, named_apart, relabel_named, owned_names (a name has what its row has), by_row_named, owned_rows
use mathlib.Core.Path.{◌≡◌, refl, sym, ap, ◌∙◌}
use mathlib.Core.Bool.{Bool, true, false, cond}
use mathlib.Core.List.{List, [], ◌∷◌}
use mathlib.Core.Logic.{◌⊎◌, inl, inr}
use Prim.Native.Nat.{ℕ, zero, suc, ◌+◌, ◌%◌, ◌≤◌, ◌<◌}
use native.Mathlib.Nat.{eq-or-lt_of_le}
use native.Mathlib.Omega.{arith}
use lib.Dec.{ltb}
use lib.ListN.{length}
use borrow.Author.Tests.{ltb-true, ltb-false, lt-ltb, ne_eqb}
use Rattle.slicing.specs.Runs.{Run, ◌of◌, owned, relabel}
use Rattle.slicing_core.specs.Rows.{at, rows}
use Rattle.slicing_core.specs.Stages.{Below, Ascending}
use Rattle.packed_runs.specs.Words.{runs, by_row, Labelled}
use Rattle.six_steps.proofs.Renaming.{owned_rename}

-- ---- runs renamed

pub length_relabel : {A B : Type 0} (f : A → B) (rs : List (Run A)) → length (relabel f rs) ≡ length rs
length_relabel f [] = refl
length_relabel f ((n of x) ∷ rs) = ap suc (length_relabel f rs)

pub length_runs : (xs : List ℕ) (i n : ℕ) → length (runs xs i n) ≡ n
length_runs xs i zero = refl
length_runs xs i (suc n) = ap suc (length_runs xs (suc i) n)

pub relabel_runs : {A : Type 0} (f g : ℕ → A) (xs : List ℕ) (i n : ℕ) → ((j : ℕ) → i ≤ j → j < i + n → f (at xs j % 65536) ≡ g (at xs j % 65536))
    → relabel f (runs xs i n) ≡ relabel g (runs xs i n)
relabel_runs f g xs i zero h = refl
relabel_runs f g xs i (suc n) h =
    rw (h i (omega arith) (omega arith), relabel_runs f g xs (suc i) n (λ j a b. h j (omega arith) (omega arith)))

pub relabel_by_row : (f g : ℕ → ℕ) (xs : List ℕ) (i n : ℕ) → ((j : ℕ) → i ≤ j → j < i + n → f j ≡ g j) → relabel f (by_row xs i n) ≡ relabel g (by_row xs i n)
relabel_by_row f g xs i zero h = refl
relabel_by_row f g xs i (suc n) h =
    rw (h i (omega arith) (omega arith), relabel_by_row f g xs (suc i) n (λ j a b. h j (omega arith) (omega arith)))

pub relabel_rows : (s l : List ℕ) (i n : ℕ) → relabel (at l) (by_row s i n) ≡ rows s l i n
relabel_rows s l i zero = refl
relabel_rows s l i (suc n) = rw (relabel_rows s l (suc i) n)

-- the label of one run of renamed runs
pub label_at : (f : ℕ → ℕ) (xs ys : List ℕ) (i n : ℕ) → runs xs i n ≡ relabel f (runs ys i n) → (j : ℕ) → i ≤ j → j < i + n
    → at xs j % 65536 ≡ f (at ys j % 65536)
label_at f xs ys i zero e j a b = absurd (omega arith)
label_at f xs ys i (suc n) e j a b = go (eq-or-lt_of_le a) (λ s. label_at f xs ys (suc i) n tail j s (omega arith))
  where
    first : at xs i % 65536 ≡ f (at ys i % 65536)
    first = cc

    tail : runs xs (suc i) n ≡ relabel f (runs ys (suc i) n)
    tail = cc

    go : (i ≡ j) ⊎ (i < j) → (suc i ≤ j → at xs j % 65536 ≡ f (at ys j % 65536)) → at xs j % 65536 ≡ f (at ys j % 65536)
    go (inl z) ih = rw (← z) first
    go (inr s) ih = ih s

pub owned_labels : (d : ℕ) (xs : List ℕ) (i n : ℕ) → ((j : ℕ) → i ≤ j → j < i + n → at xs j % 65536 < d) → owned d (runs xs i n) ≡ 0
owned_labels d xs i zero h = refl
owned_labels d xs i (suc n) h =
    rw (ne_eqb d (at xs i % 65536) (λ e. omega (arith, h i (omega arith) (omega arith))))
    (omega (arith, owned_labels d xs (suc i) n (λ j a b. h j (omega arith) (omega arith))))

-- ---- names

abbrev pub named : List ℕ → ℕ → ℕ → ℕ
named names n x = cond (ltb x n) (at names x) (x + 65536)

pub named_row : (names : List ℕ) (n x : ℕ) → x < n → named names n x ≡ at names x
named_row names n x h = rw (lt-ltb x n h)

module _ (names : List ℕ) (n : ℕ) (rising : Ascending names n) (known : Below 65536 names n) where
  pub named_apart : (x y : ℕ) → named names n x ≡ named names n y → x ≡ y
  named_apart x y e = go (ltb x n) refl (ltb y n) refl e
    where
      same : x < n → y < n → at names x ≡ at names y → (s : Bool) → ltb x y ≡ s → (t : Bool) → ltb y x ≡ t → x ≡ y
      same a b z true p t q = absurd (omega (arith, rising x y (ltb-true x y p) b))
      same a b z false p true q = absurd (omega (arith, rising y x (ltb-true y x q) a))
      same a b z false p false q = omega (arith, ltb-false x y p, ltb-false y x q)

      go : (s : Bool) → ltb x n ≡ s → (t : Bool) → ltb y n ≡ t → cond s (at names x) (x + 65536) ≡ cond t (at names y) (y + 65536) → x ≡ y
      go true a true b z = same (ltb-true x n a) (ltb-true y n b) z (ltb x y) refl (ltb y x) refl
      go true a false b z = absurd (omega (arith, known x (ltb-true x n a)))
      go false a true b z = absurd (omega (arith, known y (ltb-true y n b)))
      go false a false b z = omega arith

  module _ (xs : List ℕ) (q : ℕ) (labels : Labelled n xs q) where
    pub relabel_named : relabel (at names) (runs xs 0 q) ≡ relabel (named names n) (runs xs 0 q)
    relabel_named =
        relabel_runs (at names) (named names n) xs 0 q (λ j a b. sym (named_row names n (at xs j % 65536) (labels j (omega arith))))

    pub owned_names : (x : ℕ) → owned (named names n x) (relabel (at names) (runs xs 0 q)) ≡ owned x (runs xs 0 q)
    owned_names x = rw relabel_named (owned_rename (named names n) named_apart x (runs xs 0 q))

  pub by_row_named : (s : List ℕ) → relabel (at names) (by_row s 0 n) ≡ relabel (named names n) (by_row s 0 n)
  by_row_named s = relabel_by_row (at names) (named names n) s 0 n (λ j a b. sym (named_row names n j (omega arith)))

  pub owned_rows : (s : List ℕ) (x : ℕ) → owned (named names n x) (rows s names 0 n) ≡ owned x (by_row s 0 n)
  owned_rows s x =
      ap (owned (named names n x)) (sym (relabel_rows s names 0 n) ∙ by_row_named s) ∙ owned_rename (named names n) named_apart x (by_row s 0 n)
