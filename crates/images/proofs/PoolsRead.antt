-- The pool that the bytes of an image give, and the state that they give.
--
-- pool_in: described_pool (a pool is it, by its parts), state_of_pool_in (it holds the state), pool_in_cleared (its unused places are 0)
-- a valid state: devices_few, intervals_few, pool_in_valid, valid_pool_in, pool_of_state_in (the state's pool is it)
use mathlib.Core.Path.{◌≡◌, refl, sym, ap, ◌∙◌, subst}
use mathlib.Core.List.{List, [], ◌∷◌, ◌++◌}
use Prim.Native.Nat.{ℕ, zero, suc, ◌+◌, ◌*◌, ◌-◌, ◌≤◌}
use native.Mathlib.Omega.{arith}
use lib.ListN.{length, drop, replicate, length-append, length-replicate}
use Rattle.pools.specs.Pools.{padded, state_of, pool_of, ValidPool, Zeros, Cleared}
use Rattle.pools.proofs.PoolLaws.{length_table_rows, zeros_padded, pool_of_parts}
use Rattle.slicing.specs.Validity.{Valid}
use Rattle.slicing_core.specs.Rows.{at, device_rows, table_rows}
use Rattle.slicing_core.proofs.Rows.{length_device_rows, at_zeros}
use Rattle.image_numbers.specs.Format.{head_size, range_in, limit_in, devices_in, intervals_in, ids_in, capacities_in, starts_in, owners_in, column, state_in}
use Rattle.image_bytes.specs.RowBytes.{pool_in}
use Rattle.image_bytes.proofs.ReadColumns.{length_column, from, column_from, column_padded}

-- ---- a pool by its parts

-- the bytes of the rows, and of the rows after n devices
abbrev rows_of : List ℕ → List ℕ
rows_of xs = from head_size xs

abbrev rest_of : List ℕ → ℕ → List ℕ
rest_of xs n = from (6 * n) (rows_of xs)

starts_column : (xs : List ℕ) (n q : ℕ) → column (rest_of xs n) 4 0 q ≡ column xs 4 (head_size + 6 * n) q
starts_column xs n q = column_from (6 * n) (rows_of xs) 4 0 q ∙ column_from head_size xs 4 (6 * n + 0) q ∙ ap (λ i. column xs 4 i q) (omega arith)

owners_column : (xs : List ℕ) (n q : ℕ) → column (rest_of xs n) 2 4 q ≡ column xs 2 (head_size + 6 * n + 4) q
owners_column xs n q = column_from (6 * n) (rows_of xs) 2 4 q ∙ column_from head_size xs 2 (6 * n + 4) q ∙ ap (λ i. column xs 2 i q) (omega arith)

-- the columns read into arrays that held zeros
pub described_pool : (xs : List ℕ) (n q range limit : ℕ) (ids capacities starts owners : List ℕ) → n ≡ devices_in xs → q ≡ intervals_in xs
    → range ≡ range_in xs → limit ≡ limit_in xs → ids ≡ column (rows_of xs) 2 0 n ++ drop n (replicate 256 0)
    → capacities ≡ column (rows_of xs) 4 2 n ++ drop n (replicate 256 0) → starts ≡ column (rest_of xs n) 4 0 q ++ drop q (replicate 4096 0)
    → owners ≡ column (rest_of xs n) 2 4 q ++ drop q (replicate 4096 0)
    → record { range = range; limit = limit; devices = n; ids = ids; capacities = capacities; intervals = q; starts = starts; owners = owners } ≡ pool_in xs
unfolding pool_in
described_pool xs n q range limit ids capacities starts owners d i r l hi hc hs ho =
    rw (
      column_padded 256 2 0 (rows_of xs) ids n hi,
      column_padded 256 4 2 (rows_of xs) capacities n hc,
      column_padded 4096 4 0 (rest_of xs n) starts q hs,
      column_padded 4096 2 4 (rest_of xs n) owners q ho,
      column_from head_size xs 2 0 n,
      column_from head_size xs 4 2 n,
      starts_column xs n q,
      owners_column xs n q,
      d,
      i,
      r,
      l,
    )

-- ---- the state of the pool

-- zeros behind a list are not seen by place
at_behind : (ys : List ℕ) (m j : ℕ) → at (ys ++ replicate m 0) j ≡ at ys j
at_behind [] m j = at_zeros m j
at_behind (y ∷ ys) m zero = refl
at_behind (y ∷ ys) m (suc j) = at_behind ys m j

at_padded : (N : ℕ) (ys : List ℕ) (j : ℕ) → at (padded N ys) j ≡ at ys j
at_padded N ys j = at_behind ys (N - length ys) j

device_rows_padded : (N : ℕ) (d c : List ℕ) (i n : ℕ) → device_rows (padded N d) (padded N c) i n ≡ device_rows d c i n
device_rows_padded N d c i zero = refl
device_rows_padded N d c i (suc n) = rw (at_padded N d i, at_padded N c i, device_rows_padded N d c (suc i) n)

table_rows_padded : (N : ℕ) (p o : List ℕ) (R i n : ℕ) → table_rows (padded N p) (padded N o) R i n ≡ table_rows p o R i n
table_rows_padded N p o R i zero = refl
table_rows_padded N p o R i (suc zero) = rw (at_padded N p i, at_padded N o i)
table_rows_padded N p o R i (suc (suc n)) =
    rw (at_padded N p (suc i), at_padded N p i, at_padded N o i, table_rows_padded N p o R (suc i) (suc n))

length_padded : (N : ℕ) (ys : List ℕ) → length ys ≤ N → length (padded N ys) ≡ N
length_padded N ys h = omega (arith, length-append ys (replicate (N - length ys) 0), length-replicate {A = ℕ} (N - length ys) 0)

module _ (xs : List ℕ) where
  pub state_of_pool_in : state_of (pool_in xs) ≡ state_in xs
  unfolding state_of pool_in state_in
  state_of_pool_in =
      rw (
        device_rows_padded 256 (ids_in xs) (capacities_in xs) 0 (devices_in xs),
        table_rows_padded 4096 (starts_in xs) (owners_in xs) (range_in xs) 0 (intervals_in xs),
      )

  pub valid_pool_in : ValidPool (pool_in xs) → Valid (state_in xs)
  valid_pool_in v = subst Valid state_of_pool_in v.valid

  size : (N k i n : ℕ) → n ≤ N → length (padded N (column xs k i n)) ≡ N
  size N k i n h = length_padded N (column xs k i n) (omega (arith, length_column xs k i n))

  cleared : (N k i n : ℕ) → Zeros (padded N (column xs k i n)) n
  cleared N k i n = subst (λ (m : ℕ). Zeros (padded N (column xs k i n)) m) (length_column xs k i n) (zeros_padded N (column xs k i n))

  pub pool_in_cleared : Cleared (pool_in xs)
  unfolding pool_in
  pool_in_cleared =
      let n = devices_in xs in
      let q = intervals_in xs in record {
        no_ids = cleared 256 2 head_size n;
        no_capacities = cleared 256 4 (head_size + 2) n;
        no_starts = cleared 4096 4 (head_size + 6 * n) q;
        no_owners = cleared 4096 2 (head_size + 6 * n + 4) q;
      }

  -- ---- bytes that give a valid state

  module _ (v : Valid (state_in xs)) where
    pub devices_few : devices_in xs ≤ 256
    unfolding state_in
    devices_few = omega (arith, v.few, length_device_rows (ids_in xs) (capacities_in xs) 0 (devices_in xs))

    pub intervals_few : intervals_in xs ≤ 4096
    unfolding state_in
    intervals_few = omega (arith, v.fits, v.room_most, length_table_rows (starts_in xs) (owners_in xs) (range_in xs) 0 (intervals_in xs))

    held : Valid (state_of (pool_in xs))
    held = subst Valid (sym state_of_pool_in) v

    some : 1 ≤ intervals_in xs → 1 ≤ length (state_of (pool_in xs)).devices
    unfolding state_of pool_in
    some h = go (length (state_of (pool_in xs)).devices) refl
      where
        go : (m : ℕ) → length (state_of (pool_in xs)).devices ≡ m → 1 ≤ m
        go zero e =
            omega (
              arith,
              ap length (held.empty e),
              length_table_rows (padded 4096 (starts_in xs)) (padded 4096 (owners_in xs)) (range_in xs) 0 (intervals_in xs),
            )
        go (suc m) e = omega arith

    same : pool_of (state_of (pool_in xs)) ≡ pool_in xs
    unfolding state_of pool_in
    same =
        let n = devices_in xs in
        let q = intervals_in xs in
        pool_of_parts (pool_in xs) (size 256 2 head_size n devices_few) (size 256 4 (head_size + 2) n devices_few)
        (size 4096 4 (head_size + 6 * n) q intervals_few) (size 4096 2 (head_size + 6 * n + 4) q intervals_few) devices_few intervals_few
        pool_in_cleared.no_ids pool_in_cleared.no_capacities pool_in_cleared.no_starts pool_in_cleared.no_owners
        held.coalesced (λ h. held.covers (some h))

    pub pool_in_valid : ValidPool (pool_in xs)
    pool_in_valid = record { valid = held; same = same }

    pub pool_of_state_in : pool_of (state_in xs) ≡ pool_in xs
    pool_of_state_in = ap pool_of (sym state_of_pool_in) ∙ same
