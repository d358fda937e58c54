-- The search by halving, of any numbers whatever.
--
--   halve s x f lo hi     the place that halving ends at, between lo and hi, with at most f steps
--   owner_found s o n x    the owner at the place that it finds for point x among n starts; 0 where there is none
--   clamped n             the intervals that a pool's arrays have room for
use Rattle.std.specs.Prelude.{cond, List, ℕ, zero, suc, ◌+◌, ◌/◌, min, eqb, leb, ltb}
use Rattle.slicing_core.specs.Rows.{at}

abbrev pub halve : List ℕ → ℕ → ℕ → ℕ → ℕ → ℕ
halve s x zero lo hi = lo
halve s x (suc f) lo hi =
    let r = cond (leb (at s ((lo + hi) / 2)) x) (halve s x f ((lo + hi) / 2) hi) (halve s x f lo ((lo + hi) / 2)) in
    cond (ltb (lo + 1) hi) r lo

unfoldable pub owner_found : List ℕ → List ℕ → ℕ → ℕ → ℕ
owner_found s o n x = cond (eqb n 0) 0 (at o (halve s x n 0 n))

abbrev pub clamped : ℕ → ℕ
clamped n = min n 4096
