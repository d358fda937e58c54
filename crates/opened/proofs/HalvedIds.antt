-- The search of an id among rising ones by halving: what the loop of `position` keeps.
--
--   Between ids n id low high     of the n ids, those before low are below id, and that at high is not
use mathlib.Core.List.{List}
use Prim.Native.Nat.{ℕ, ◌≤◌, ◌<◌}
use Rattle.slicing_core.specs.Rows.{at}

pub record Between (ids : List ℕ) (n id low high : ℕ) : Type 0 where
  pub order : low ≤ high
  pub within : high ≤ n
  pub below : (i : ℕ) → i < low → at ids i < id
  pub from : high < n → id ≤ at ids high
