-- The struct Pool and the rules' state.
--
--   padded n xs        xs and zeros up to n places
--   starts_of p rs      the starts of the intervals, the first at point p
--   owners_of rs        their owners
--   state_of p          the state that a pool holds
--   pool_of s           the pool that holds a state, unused places 0
--   ValidPool p        p holds a valid state, and nothing else
use Rattle.std.specs.Prelude.{◌≡◌, List, [], ◌∷◌, ◌++◌, ℕ, ◌+◌, ◌-◌, ◌≤◌, ◌<◌, eqb, length, replicate}
use Rattle.slicing.specs.Changes.{State}
use Rattle.slicing.specs.Devices.{Device, ids, Rising}
use Rattle.slicing.specs.Limits.{max_range, max_limit, max_devices}
use Rattle.slicing.specs.Runs.{Run, ◌of◌, total, owned, Coalesced}
use Rattle.slicing.specs.ShareRule.{share_of}
use Rattle.slicing.specs.Validity.{Valid}
use Rattle.slicing_core.specs.Rows.{at, device_rows, table_rows}
use Rattle.pools.specs.declared.Pool.{Pool}

abbrev pub padded : ℕ → List ℕ → List ℕ
padded n xs = xs ++ replicate (n - length xs) 0

abbrev pub capacities_of : List Device → List ℕ
capacities_of [] = []
capacities_of (e ∷ ds) = e.capacity ∷ capacities_of ds

abbrev pub starts_of : ℕ → List (Run ℕ) → List ℕ
starts_of p [] = []
starts_of p ((n of d) ∷ rs) = p ∷ starts_of (p + n) rs

abbrev pub owners_of : List (Run ℕ) → List ℕ
owners_of [] = []
owners_of ((n of d) ∷ rs) = d ∷ owners_of rs

unfoldable pub state_of : Pool → State
state_of p = record {
  range = p.range;
  limit = p.limit;
  devices = device_rows p.ids p.capacities 0 p.devices;
  table = table_rows p.starts p.owners p.range 0 p.intervals;
}

unfoldable pub pool_of : State → Pool
pool_of s = record {
  range = s.range;
  limit = s.limit;
  devices = length s.devices;
  ids = padded 256 (ids s.devices);
  capacities = padded 256 (capacities_of s.devices);
  intervals = length s.table;
  starts = padded 4096 (starts_of 0 s.table);
  owners = padded 4096 (owners_of s.table);
}

pub record ValidPool (p : Pool) : Type 0 where
  pub valid : Valid (state_of p)
  pub same : pool_of (state_of p) ≡ p

-- all from place n on are 0
abbrev pub Zeros : List ℕ → ℕ → Type 0
Zeros xs n = (i : ℕ) → n ≤ i → i < length xs → at xs i ≡ 0

-- the parts of validity, as they are decided
pub record Limited (p : Pool) : Type 0 where
  pub some : 1 ≤ p.range
  pub most : p.range ≤ max_range
  pub room : 1 ≤ p.limit
  pub room_most : p.limit ≤ max_limit
  pub few : p.devices ≤ max_devices
  pub fits : p.intervals ≤ p.limit

-- its unused places are 0
pub record Cleared (p : Pool) : Type 0 where
  pub no_ids : Zeros p.ids p.devices
  pub no_capacities : Zeros p.capacities p.devices
  pub no_starts : Zeros p.starts p.intervals
  pub no_owners : Zeros p.owners p.intervals

-- the parts that do not speak of the intervals' points
pub record Formed (p : Pool) : Type 0 where
  pub limited : Limited p
  pub rising : Rising 0 (device_rows p.ids p.capacities 0 p.devices)
  pub cleared : Cleared p
  pub empty : p.devices ≡ 0 → p.intervals ≡ 0

pub record Covered (R : ℕ) (ids capacities : List ℕ) (n : ℕ) (starts owners : List ℕ) (q : ℕ) : Type 0 where
  pub coalesced : Coalesced eqb (table_rows starts owners R 0 q)
  pub covers : total (table_rows starts owners R 0 q) ≡ R
  pub held : (i : ℕ) → i < n → owned (at ids i) (table_rows starts owners R 0 q) ≡ share_of R (device_rows ids capacities 0 n) (at ids i)
