-- Largest remainder on arrays: what its stages promise.
--
--   Remained R caps n C r   what the roundings of n rows leave stands in r
--   rank rems ids p i n     how many of n rows go before row p
use Rattle.std.specs.Prelude.{◌≡◌, ◌&&◌, ◌||◌, List, ℕ, zero, suc, ◌+◌, ◌*◌, ◌%◌, ◌<◌, eqb, ltb, length}
use Rattle.slicing.specs.Runs.{one}
use Rattle.slicing_core.specs.Rows.{at}

pub record Remained (R : ℕ) (caps : List ℕ) (n C : ℕ) (r : List ℕ) : Type 0 where
  pub size : length r ≡ 256
  pub remained : (i : ℕ) → i < n → at r i ≡ R * at caps i % C

-- how many of the n rows from i on go before row p: a larger remainder, or an equal one and a lower id
abbrev pub rank : List ℕ → List ℕ → ℕ → ℕ → ℕ → ℕ
rank rems ids p i zero = 0
rank rems ids p i (suc n) =
    one (ltb (at rems p) (at rems i) || (eqb (at rems p) (at rems i) && ltb (at ids i) (at ids p))) + rank rems ids p (suc i) n
