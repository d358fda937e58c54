-- What the offered call for a fresh pool promises: a record of equations for every two numbers.
--
--   Fresh R M r             r answers the call for a fresh pool
use Rattle.std.specs.Prelude.{◌≡◌, cond, ◌||◌, ℕ}
use Rattle.slicing.specs.Changes.{fresh}
use Rattle.slicing.specs.Limits.{max_range, max_limit, outside}
use Rattle.pools.specs.Pools.{pool_of}
use Rattle.pools.specs.declared.PoolAnswer.{PoolAnswer}

-- 'a refused call that makes a pool gives a fresh one with R = 1 and M = 1'
pub record Fresh (R M : ℕ) (r : PoolAnswer) : Type 0 where
  pub number : r.refusal ≡ cond (outside max_range R || outside max_limit M) 2 0
  pub pool : r.pool ≡ pool_of (cond (outside max_range R || outside max_limit M) (fresh 1 1) (fresh R M))
