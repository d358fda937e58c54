-- Laws of what each owner has.
--
-- owned: owned_le (at most all points)
use mathlib.Core.Bool.{Bool, true, false}
use mathlib.Core.List.{List, [], ◌∷◌}
use Prim.Native.Nat.{ℕ, ◌+◌, ◌*◌, ◌≤◌}
use native.Mathlib.Omega.{arith}
use lib.Dec.{eqb}
use Rattle.slicing.specs.Runs.{Run, ◌of◌, one, total, owned}

pub owned_le : (d : ℕ) (rs : List (Run ℕ)) → owned d rs ≤ total rs
owned_le d [] = omega arith
owned_le d ((n of e) ∷ rs) = go (eqb d e) (owned_le d rs)
  where
    go : (t : Bool) → owned d rs ≤ total rs → one t * n + owned d rs ≤ n + total rs
    go true ih = omega arith
    go false ih = omega arith
