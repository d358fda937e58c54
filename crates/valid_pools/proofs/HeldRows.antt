-- Laws of what the devices hold, row by row.
--
-- owned: owned_row (of rows whose ids rise, each alone has its id), owned_present (an owner of rows is one of the ids)
use mathlib.Core.Path.{◌≡◌, refl, sym, ap, ◌∙◌}
use mathlib.Core.Bool.{Bool, true, false, ◌||◌}
use mathlib.Core.List.{List}
use Prim.Native.Nat.{ℕ, zero, suc, ◌+◌, ◌*◌, ◌≤◌, ◌<◌}
use native.Mathlib.Omega.{arith}
use lib.Dec.{eqb}
use Rattle.slicing.specs.Devices.{present}
use Rattle.slicing.specs.Runs.{one, owned}
use Rattle.slicing_core.specs.Rows.{at, rows, device_rows}
use Rattle.slicing_core.specs.Stages.{Below, Ascending}
use Rattle.packed_runs.proofs.Words.{owned_by_row}
use Rattle.opened.proofs.RowNames.{named_row, owned_rows}

pub owned_row : (s ids : List ℕ) (n i : ℕ) → Ascending ids n → Below 65536 ids n → i < n → owned (at ids i) (rows s ids 0 n) ≡ at s i
owned_row s ids n i ascending below h =
    ap (λ x. owned x (rows s ids 0 n)) (sym (named_row ids n i h)) ∙ owned_rows ids n ascending below s i ∙ owned_by_row s i 0 n (omega arith) (omega arith)

pub owned_present : (d : ℕ) (s ids capacities : List ℕ) (i n : ℕ) → 1 ≤ owned d (rows s ids i n) → present d (device_rows ids capacities i n) ≡ true
owned_present d s ids capacities i zero h = absurd (omega arith)
owned_present d s ids capacities i (suc n) h = go (eqb d (at ids i)) h (owned_present d s ids capacities (suc i) n)
  where
    go : (t : Bool) → 1 ≤ one t * at s i + owned d (rows s ids (suc i) n)
        → (1 ≤ owned d (rows s ids (suc i) n) → present d (device_rows ids capacities (suc i) n) ≡ true)
        → t || present d (device_rows ids capacities (suc i) n) ≡ true
    go true k ih = refl
    go false k ih = ih (omega arith)
