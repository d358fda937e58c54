-- What a cut and the rows of devices ask and promise, where a clause would be long.
--
--   Below k xs n            the first n of xs are below k
--   Ascending xs n          the first n of xs rise
--   Decides b P             b says whether P holds
--   side b                  the flag: true is start
--   CutTo r n f t c         c is the rules' cut
--   Position, Inserted, Deleted   rows of devices by rising id
use Rattle.std.specs.Prelude.{◌≡◌, Bool, true, false, List, ℕ, ◌+◌, ◌≤◌, ◌<◌, length}
use Rattle.slicing.specs.SixSteps.{Side, start, end, cut}
use Rattle.slicing_core.specs.Rows.{at}
use Rattle.slicing_core.specs.declared.cuts.Cut.{Cut}

abbrev pub Below : ℕ → List ℕ → ℕ → Type 0
Below k xs n = (i : ℕ) → i < n → at xs i < k

-- the first n of xs rise
abbrev pub Ascending : List ℕ → ℕ → Type 0
Ascending xs n = (i j : ℕ) → i < j → j < n → at xs i < at xs j

abbrev pub Decides : Bool → Type 0 → Type 0
Decides true P = P
Decides false P = P → ⊥

abbrev pub side : Bool → Side
side true = start
side false = end

pub record CutTo (r n : ℕ) (f : Side) (t : Bool) (c : Cut) : Type 0 where
  pub front : c.front ≡ (cut r n f t).front
  pub gap : c.gap ≡ (cut r n f t).gap
  pub back : c.back ≡ (cut r n f t).back
  pub flag : side c.flag ≡ (cut r n f t).flag
  pub touch : c.touch ≡ (cut r n f t).touch

-- the place that an id has among rising ones
pub record Position (ids : List ℕ) (n id p : ℕ) : Type 0 where
  pub most : p ≤ n
  pub below : (i : ℕ) → i < p → at ids i < id
  pub from : p < n → id ≤ at ids p

-- of n rows, a row more at place p
pub record Inserted (xs : List ℕ) (n p v : ℕ) (r : List ℕ) : Type 0 where
  pub size : length r ≡ 256
  pub before : (i : ℕ) → i < p → at r i ≡ at xs i
  pub here : at r p ≡ v
  pub after : (i : ℕ) → p ≤ i → i < n → at r (i + 1) ≡ at xs i

-- of n rows, the row at place p less
pub record Deleted (xs : List ℕ) (n p : ℕ) (r : List ℕ) : Type 0 where
  pub size : length r ≡ 256
  pub before : (i : ℕ) → i < p → at r i ≡ at xs i
  pub after : (i : ℕ) → p ≤ i → i + 1 < n → at r i ≡ at xs (i + 1)
