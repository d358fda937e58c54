-- What `put` and `push` ask and promise.
--
--   Put xs n k x ys m       the run of k points with x was put behind n runs of xs, unless it is empty
--   Held xs n k             xs holds n coalesced runs, with room for k more
--   Pushed xs n k x ys m    the run was put behind them, joined to the last where that has x
use Rattle.std.specs.Prelude.{◌≡◌, List, [], ◌∷◌, ◌++◌, ℕ, ◌+◌, ◌≤◌, ◌<◌, min, eqb, length, replicate}
use Rattle.slicing.specs.Runs.{◌of◌, expand, Coalesced}
use Rattle.packed_runs.specs.Words.{room, runs, present, Labelled}

pub record Put (xs : List ℕ) (n k x : ℕ) (ys : List ℕ) (m : ℕ) : Type 0 where
  pub size : length ys ≡ room
  pub all : runs ys 0 m ≡ runs xs 0 n ++ present ((k of x) ∷ [])
  pub most : m ≤ n + min 1 k
  pub labels : (j : ℕ) → x < j → Labelled j xs n → Labelled j ys m

pub record Held (xs : List ℕ) (n k : ℕ) : Type 0 where
  pub size : length xs ≡ room
  pub fits : n + k ≤ room
  pub coalesced : Coalesced eqb (runs xs 0 n)

pub record Pushed (xs : List ℕ) (n k x : ℕ) (ys : List ℕ) (m : ℕ) : Type 0 where
  pub size : length ys ≡ room
  pub coalesced : Coalesced eqb (runs ys 0 m)
  pub points : expand (runs ys 0 m) ≡ expand (runs xs 0 n) ++ replicate k x
  pub most : m ≤ n + min 1 k
