-- Laws of the arrays of a closed pool, filled from an opened one with zeros behind.
--
-- padded: padded_take (one number more)
-- total: total_runs_more, total_runs_le (one run more, and all of them)
-- starts_of: starts_of_relabel, starts_of_run (one run more)
-- owners_of: owners_of_run
-- the pool: pool_closed
use mathlib.Core.Path.{◌≡◌, refl, ◌∙◌}
use mathlib.Core.List.{List, [], ◌∷◌}
use Prim.Native.Nat.{ℕ, zero, suc, ◌+◌, ◌/◌, ◌%◌, ◌≤◌, ◌<◌}
use native.Mathlib.Omega.{arith}
use native.Mathlib.Nat.{add-zero, zero-add}
use native.Mathlib.Numerals.{add-one}
use lib.ListN.{length, set, take, length-take}
use lib.Seq.{take-suc}
use Rattle.slicing.specs.Devices.{ids}
use Rattle.slicing.specs.Runs.{Run, ◌of◌, total, relabel}
use Rattle.slicing.proofs.Runs.{total_append, relabel_append}
use Rattle.slicing_core.specs.Rows.{at, device_rows}
use Rattle.slicing_core.proofs.Rows.{length_device_rows}
use Rattle.packed_runs.specs.Words.{runs}
use Rattle.packed_runs.proofs.Words.{runs_snoc}
use Rattle.opened.specs.declared.Opened.{Opened}
use Rattle.opened.specs.OpenPools.{state_in, Open}
use Rattle.opened.proofs.OpenPools.{open_few, open_length}
use Rattle.opened.proofs.RowNames.{length_relabel, length_runs}
use Rattle.pools.specs.declared.Pool.{Pool}
use Rattle.pools.specs.Pools.{padded, starts_of, owners_of, capacities_of, pool_of}
use Rattle.pools.proofs.PaddedRows.{padded_store, starts_of_snoc, length_starts_of, owners_of_snoc, length_owners_of}
use Rattle.pools.proofs.PoolLaws.{ids_part, capacities_part}

pub padded_take : (N : ℕ) (xs : List ℕ) (i : ℕ) → i < N → i < length xs → set (padded N (take i xs)) i (at xs i) ≡ padded N (take (i + 1) xs)
padded_take N xs i h l =
    rw (add-one, take-suc xs i 0 l) (padded_store N i (take i xs) (at xs i) (omega (arith, length-take i xs)) h)

-- ---- runs

pub total_runs_more : (xs : List ℕ) (n : ℕ) → total (runs xs 0 n) + at xs n / 65536 ≡ total (runs xs 0 (n + 1))
total_runs_more xs n = rw (runs_snoc, zero-add, total_append) (omega arith)

total_runs_from : (xs : List ℕ) (j i n : ℕ) → i < n → total (runs xs j i) + at xs (j + i) / 65536 ≤ total (runs xs j n)
total_runs_from xs j i zero h = absurd (omega arith)
total_runs_from xs j zero (suc n) h = rw add-zero (omega arith)
total_runs_from xs j (suc i) (suc n) h =
    let e : j + suc i ≡ suc j + i = omega arith in
    rw e (omega (arith, total_runs_from xs (suc j) i n (omega arith)))

pub total_runs_le : (xs : List ℕ) (i n : ℕ) → i < n → total (runs xs 0 i) + at xs i / 65536 ≤ total (runs xs 0 n)
total_runs_le xs i n h = rw zero-add at (total_runs_from xs 0 i n h)

-- ---- starts_of

pub starts_of_relabel : (f : ℕ → ℕ) (p : ℕ) (rs : List (Run ℕ)) → starts_of p (relabel f rs) ≡ starts_of p rs
starts_of_relabel f p [] = refl
starts_of_relabel f p ((n of d) ∷ rs) = rw (starts_of_relabel f (p + n) rs)

pub starts_of_run : (k : ℕ) (xs : List ℕ) (i : ℕ) → i < k
    → set (padded k (starts_of 0 (runs xs 0 i))) i (total (runs xs 0 i)) ≡ padded k (starts_of 0 (runs xs 0 (i + 1)))
starts_of_run k xs i h =
    rw (runs_snoc, starts_of_snoc, zero-add)
    (padded_store k i (starts_of 0 (runs xs 0 i)) (total (runs xs 0 i)) (length_starts_of 0 (runs xs 0 i) ∙ length_runs xs 0 i) h)

-- ---- owners_of

pub owners_of_run : (k : ℕ) (f : ℕ → ℕ) (xs : List ℕ) (i : ℕ) → i < k
    → set (padded k (owners_of (relabel f (runs xs 0 i)))) i (f (at xs i % 65536)) ≡ padded k (owners_of (relabel f (runs xs 0 (i + 1))))
owners_of_run k f xs i h =
    let rs : List (Run ℕ) = relabel f (runs xs 0 i) in
    rw (runs_snoc, zero-add, relabel_append, owners_of_snoc)
    (padded_store k i (owners_of rs) (f (at xs i % 65536)) (length_owners_of rs ∙ length_relabel f (runs xs 0 i) ∙ length_runs xs 0 i) h)

-- ---- the pool

pub pool_closed : {o : Opened} {table : List ℕ} → Open o table → (is cs ps os : List ℕ) → is ≡ padded 256 (take o.devices o.ids)
    → cs ≡ padded 256 (take o.devices o.capacities) → ps ≡ padded 4096 (starts_of 0 (runs table 0 o.intervals))
    → os ≡ padded 4096 (owners_of (relabel (at o.ids) (runs table 0 o.intervals)))
    → ◌≡◌ {A = Pool}
    (record { range = o.range; limit = o.limit; devices = o.devices; ids = is; capacities = cs; intervals = o.intervals; starts = ps; owners = os })
    (pool_of (state_in o table))
unfolding pool_of
pool_closed {o} {table} h is cs ps os ei ec ep eo =
    let few : o.devices ≤ 256 = open_few h in
    let i : ids (device_rows o.ids o.capacities 0 o.devices) ≡ take o.devices o.ids =
    ids_part o.ids o.capacities 0 o.devices (omega (arith, h.ids_size)) in
    let c : capacities_of (device_rows o.ids o.capacities 0 o.devices) ≡ take o.devices o.capacities =
    capacities_part o.ids o.capacities 0 o.devices (omega (arith, h.capacities_size)) in
    rw (
      ei,
      ec,
      ep,
      eo,
      i,
      c,
      length_device_rows o.ids o.capacities 0 o.devices,
      open_length h,
      starts_of_relabel (at o.ids) 0 (runs table 0 o.intervals),
    )
