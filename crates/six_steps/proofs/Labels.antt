-- Labels of runs in an array: what the owners of runs tell of them.
--
-- labels: label_owned (the owner of a run that is not empty has a point), labels_below
use mathlib.Core.Path.{◌≡◌, refl, ap}
use mathlib.Core.Bool.{Bool, true, false}
use mathlib.Core.List.{List}
use Prim.Native.Nat.{ℕ, zero, suc, ◌+◌, ◌*◌, ◌/◌, ◌%◌, ◌≤◌, ◌<◌}
use native.Mathlib.Omega.{arith}
use lib.Dec.{eqb, ltb}
use borrow.Author.Tests.{eqb-true, eqb-false, eq-eqb, ltb-true, ltb-false}
use Rattle.slicing.specs.Runs.{one, owned, relabel, Coalesced}
use Rattle.slicing_core.specs.Rows.{at}
use Rattle.packed_runs.specs.Words.{runs}

-- m runs of xs from place i, none of which is empty: under f their labels are owners, as under g they are coalesced
module _ {A : Type 0} (eq : A → A → Bool) (g : ℕ → A) (f : ℕ → ℕ) (xs : List ℕ) where
  pub label_owned : (i m : ℕ) → Coalesced eq (relabel g (runs xs i m)) → (j : ℕ) → i ≤ j → j < i + m
      → 1 ≤ owned (f (at xs j % 65536)) (relabel f (runs xs i m))
  label_owned i zero c j a b = absurd (omega arith)
  label_owned i (suc m) c j a b = go (eqb j i) refl (λ k. label_owned (suc i) m c.2 j k (omega arith))
    where
      d : ℕ
      d = f (at xs j % 65536)

      rest : ℕ
      rest = owned d (relabel f (runs xs (suc i) m))

      go : (t : Bool) → eqb j i ≡ t → (suc i ≤ j → 1 ≤ rest) → 1 ≤ one (eqb d (f (at xs i % 65536))) * (at xs i / 65536) + rest
      go true e ih =
          let z : d ≡ f (at xs i % 65536) = ap (λ k. f (at xs k % 65536)) (eqb-true j i e) in
          rw (eq-eqb d (f (at xs i % 65536)) z) (omega (arith, c.0))
      go false e ih = omega (arith, ih (omega (arith, eqb-false j i e)))

  -- where no owner from n on has a point, the labels are below n
  pub labels_below : (n m : ℕ) → Coalesced eq (relabel g (runs xs 0 m)) → ((d : ℕ) → n ≤ d → owned d (relabel f (runs xs 0 m)) ≡ 0)
      → (j : ℕ) → j < m → f (at xs j % 65536) < n
  labels_below n m c h j b = go (ltb (f (at xs j % 65536)) n) refl
    where
      go : (t : Bool) → ltb (f (at xs j % 65536)) n ≡ t → f (at xs j % 65536) < n
      go true e = ltb-true (f (at xs j % 65536)) n e
      go false e = absurd (omega (arith, label_owned 0 m c j (omega arith) (omega arith), h (f (at xs j % 65536)) (ltb-false (f (at xs j % 65536)) n e)))
