-- A pool opened: its numbers in 64-bit places.
--
--   opened_with p ids capacities has         the pool p opened, with these arrays
--   Widened xs n r                          r has the n numbers of xs
--   Entered p o                             o has the numbers of p, and its rows have nothing yet
use Rattle.std.specs.Prelude.{◌≡◌, List, ℕ, length, replicate}
use Rattle.opened.specs.declared.Opened.{Opened}
use Rattle.pools.specs.declared.Pool.{Pool}

abbrev pub opened_with : Pool → List ℕ → List ℕ → List ℕ → Opened
opened_with p ids capacities has =
    record { range = p.range; limit = p.limit; devices = p.devices; ids = ids; capacities = capacities; has = has; intervals = p.intervals }

-- r has the n numbers of xs
pub record Widened (xs : List ℕ) (n : ℕ) (r : List ℕ) : Type 0 where
  pub same : r ≡ xs
  pub size : length xs ≡ n

pub record Entered (p : Pool) (o : Opened) : Type 0 where
  pub ids : Widened p.ids 256 o.ids
  pub capacities : Widened p.capacities 256 o.capacities
  pub same : o ≡ opened_with p o.ids o.capacities (replicate 256 0)
