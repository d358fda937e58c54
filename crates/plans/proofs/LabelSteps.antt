-- The runs of a table with other labels, one after the other.
--
-- runs: runs_named (of runs, each has f of its label), runs_front (those in front of a list), runs_take
use mathlib.Core.Path.{◌≡◌, refl}
use mathlib.Core.List.{List, ◌++◌}
use Prim.Native.Nat.{ℕ, zero, suc, ◌+◌, ◌≤◌, ◌<◌}
use native.Mathlib.Omega.{arith}
use lib.ListN.{length, take, get_or-append}
use Rattle.std.proofs.lemmas.List.{get_or-take}
use Rattle.slicing.specs.Runs.{relabel}
use Rattle.slicing_core.specs.Rows.{at}
use Rattle.packed_runs.specs.Words.{runs}
use Rattle.packed_runs.proofs.Words.{runs_same}
use Rattle.plans.specs.Labels.{Named}

pub runs_named : (f : ℕ → ℕ) (xs ys : List ℕ) (i n : ℕ) → ((j : ℕ) → i ≤ j → j < i + n → Named f (at xs j) (at ys j))
    → runs ys i n ≡ relabel f (runs xs i n)
runs_named f xs ys i zero h = refl
runs_named f xs ys i (suc n) h =
    let here : Named f (at xs i) (at ys i) = h i (omega arith) (omega arith) in
    rw (here.0, here.1, runs_named f xs ys (suc i) n (λ j a b. h j (omega arith) (omega arith)))

pub runs_front : (xs ys : List ℕ) (n : ℕ) → n ≤ length xs → runs (xs ++ ys) 0 n ≡ runs xs 0 n
runs_front xs ys n h = runs_same (xs ++ ys) xs 0 n (λ j a b. get_or-append xs ys 0 j (omega arith))

pub runs_take : (xs : List ℕ) (n : ℕ) → runs (take n xs) 0 n ≡ runs xs 0 n
runs_take xs n = runs_same (take n xs) xs 0 n (λ j a b. get_or-take n xs j 0 (omega arith))
