-- The struct Pool and the rules' state: each holds the other, on valid ones.
--
-- lists: take-at (a list by its places), padded_zeros (zeros from n on), at_padded
-- rows: ids-rows, capacities-rows, owners-rows, length_table_rows, starts_of_rows (starts that rise from 0 to R), intervals_rows
-- lists that rows come from: device_rows_of, table_rows_of
-- pools: pool_of_parts (a pool is that of its state), state_of_pool_of, valid_pool_pool_of
use mathlib.Core.Path.{◌≡◌, refl, sym, ap, ◌∙◌, subst}
use mathlib.Core.List.{List, [], ◌∷◌, ◌++◌}
use Prim.Native.Nat.{ℕ, zero, suc, ◌+◌, ◌-◌, ◌≤◌, ◌<◌}
use native.Mathlib.Omega.{arith}
use native.Mathlib.Nat.{zero-add}
use lib.Dec.{eqb}
use lib.ListN.{length, get_or, take, drop, replicate, length-append, length-replicate, length-take, length-drop, take-append-drop, get_or-append, get_or-replicate}
use lib.Seq.{ext_get_or, get_or-drop, drop-cons, get_or-append-add}
use Rattle.slicing.specs.Changes.{State}
use Rattle.slicing.specs.Devices.{Device, ids}
use Rattle.slicing.specs.Runs.{Run, ◌of◌, intervals, total, Coalesced}
use Rattle.slicing.specs.Validity.{Valid}
use Rattle.slicing_core.specs.Rows.{at, device_rows, table_rows, interval_rows}
use Rattle.slicing_core.proofs.Rows.{length_device_rows}
use Rattle.pools.specs.declared.Pool.{Pool}
use Rattle.pools.specs.Pools.{padded, capacities_of, starts_of, owners_of, state_of, pool_of, ValidPool, Zeros}
use Rattle.pools.proofs.PaddedRows.{length_starts_of, length_owners_of}

-- ---- lists

abbrev blanks : ℕ → List ℕ
blanks n = replicate n 0

-- a list whose places from n on are 0 is its first n and zeros
pub padded_zeros : (N n : ℕ) (xs ys : List ℕ) → length xs ≡ N → n ≤ N → Zeros xs n → ys ≡ take n xs → padded N ys ≡ xs
padded_zeros N n xs ys l h z e =
    rw e (ap (λ zs. take n xs ++ zs) (ext_get_or 0 (blanks k) (drop n xs) same each) ∙ take-append-drop n xs)
  where
    k : ℕ
    k = N - length (take n xs)

    size : length (take n xs) ≡ n
    size = omega (arith, length-take n xs)

    same : length (blanks k) ≡ length (drop n xs)
    same = omega (arith, length-replicate {A = ℕ} k 0, length-drop n xs, size)

    each : (i : ℕ) → i < length (blanks k) → get_or (blanks k) i 0 ≡ get_or (drop n xs) i 0
    each i b =
        get_or-replicate k i 0 0 (omega (arith, length-replicate {A = ℕ} k 0))
        ∙ sym (get_or-drop n xs i 0 ∙ z (n + i) (omega arith) (omega (arith, length-replicate {A = ℕ} k 0, size)))

at_padded : (N : ℕ) (ys : List ℕ) (i : ℕ) → i < length ys → at (padded N ys) i ≡ at ys i
at_padded N ys i h = get_or-append ys (replicate (N - length ys) 0) 0 i h

pub zeros_padded : (N : ℕ) (ys : List ℕ) → Zeros (padded N ys) (length ys)
zeros_padded N ys i l h =
    let e : i ≡ length ys + (i - length ys) = omega arith in
    ap (at (padded N ys)) e ∙ get_or-append-add ys (replicate (N - length ys) 0) (i - length ys) 0
    ∙ get_or-replicate (N - length ys) (i - length ys) 0 0
    (omega (arith, length-append ys (replicate (N - length ys) 0), length-replicate {A = ℕ} (N - length ys) 0))

-- ---- rows and the lists that they come from

-- n from place i on
abbrev part : List ℕ → ℕ → ℕ → List ℕ
part xs i n = take n (drop i xs)

part_suc : (xs : List ℕ) (i n : ℕ) → i < length xs → part xs i (suc n) ≡ at xs i ∷ part xs (suc i) n
part_suc xs i n h = rw (drop-cons xs i 0 h)

pub ids_part : (d c : List ℕ) (i n : ℕ) → i + n ≤ length d → ids (device_rows d c i n) ≡ part d i n
ids_part d c i zero h = refl
ids_part d c i (suc n) h = rw (part_suc d i n (omega arith), ids_part d c (suc i) n (omega arith))

pub capacities_part : (d c : List ℕ) (i n : ℕ) → i + n ≤ length c → capacities_of (device_rows d c i n) ≡ part c i n
capacities_part d c i zero h = refl
capacities_part d c i (suc n) h = rw (part_suc c i n (omega arith), capacities_part d c (suc i) n (omega arith))

owners_part : (p o : List ℕ) (R i n : ℕ) → i + n ≤ length o → owners_of (table_rows p o R i n) ≡ part o i n
owners_part p o R i zero h = refl
owners_part p o R i (suc zero) h = sym (part_suc o i 0 (omega arith))
owners_part p o R i (suc (suc n)) h = rw (part_suc o i (suc n) (omega arith), owners_part p o R (suc i) (suc n) (omega arith))

pub length_table_rows : (p o : List ℕ) (R i n : ℕ) → length (table_rows p o R i n) ≡ n
length_table_rows p o R i zero = refl
length_table_rows p o R i (suc zero) = refl
length_table_rows p o R i (suc (suc n)) = ap suc (length_table_rows p o R (suc i) (suc n))

-- intervals of at least one point: the last ends at R, and each begins where the last ends
pub total_table_rows : (p o : List ℕ) (R i n : ℕ) → Coalesced eqb (table_rows p o R i (suc n)) → at p i + total (table_rows p o R i (suc n)) ≡ R
total_table_rows p o R i zero h = omega (arith, h.0)
total_table_rows p o R i (suc n) h = omega (arith, h.0, total_table_rows p o R (suc i) n h.2)

starts_part : (p o : List ℕ) (R i n : ℕ) → i + n ≤ length p → Coalesced eqb (table_rows p o R i n) → starts_of (at p i) (table_rows p o R i n) ≡ part p i n
starts_part p o R i zero b h = refl
starts_part p o R i (suc zero) b h = sym (part_suc p i 0 (omega arith))
starts_part p o R i (suc (suc n)) b h =
    let e : at p i + (at p (suc i) - at p i) ≡ at p (suc i) = omega (arith, h.0) in
    rw (part_suc p i (suc n) (omega arith), e, starts_part p o R (suc i) (suc n) (omega arith) h.2)

pub starts_of_rows : (p o : List ℕ) (R q : ℕ) → q ≤ length p → Coalesced eqb (table_rows p o R 0 q) → (1 ≤ q → total (table_rows p o R 0 q) ≡ R)
    → starts_of 0 (table_rows p o R 0 q) ≡ take q p
starts_of_rows p o R zero b h t = refl
starts_of_rows p o R (suc q) b h t =
    let e : at p 0 ≡ 0 = omega (arith, t (omega arith), total_table_rows p o R 0 q h) in
    ap (λ z. starts_of z (table_rows p o R 0 (suc q))) (sym e) ∙ starts_part p o R 0 (suc q) (omega arith) h

-- ---- a table's intervals are those that its rows give

intervals_from : (p o : List ℕ) (R i n : ℕ) → Coalesced eqb (table_rows p o R i n) → intervals (at p i) (table_rows p o R i n) ≡ interval_rows p o R i n
intervals_from p o R i zero h = refl
intervals_from p o R i (suc zero) h = refl
intervals_from p o R i (suc (suc n)) h =
    let e : at p i + (at p (suc i) - at p i) ≡ at p (suc i) = omega (arith, h.0) in
    ap (λ is. record { start = at p i; size = at p (suc i) - at p i; owner = at o i } ∷ is)
    (ap (λ x. intervals x (table_rows p o R (suc i) (suc n))) e ∙ intervals_from p o R (suc i) (suc n) h.2)

pub intervals_rows : (p o : List ℕ) (R q : ℕ) → Coalesced eqb (table_rows p o R 0 q) → (1 ≤ q → total (table_rows p o R 0 q) ≡ R)
    → intervals 0 (table_rows p o R 0 q) ≡ interval_rows p o R 0 q
intervals_rows p o R zero h t = refl
intervals_rows p o R (suc q) h t =
    let e : at p 0 ≡ 0 = omega (arith, t (omega arith), total_table_rows p o R 0 q h) in
    ap (λ x. intervals x (table_rows p o R 0 (suc q))) (sym e) ∙ intervals_from p o R 0 (suc q) h

-- ---- a pool whose unused places are 0 is the pool of its state

pub pool_of_parts : (p : Pool) → length p.ids ≡ 256 → length p.capacities ≡ 256 → length p.starts ≡ 4096 → length p.owners ≡ 4096
    → p.devices ≤ 256 → p.intervals ≤ 4096 → Zeros p.ids p.devices → Zeros p.capacities p.devices
    → Zeros p.starts p.intervals → Zeros p.owners p.intervals
    → Coalesced eqb (table_rows p.starts p.owners p.range 0 p.intervals)
    → (1 ≤ p.intervals → total (table_rows p.starts p.owners p.range 0 p.intervals) ≡ p.range) → pool_of (state_of p) ≡ p
unfolding pool_of state_of
pool_of_parts p li lc ls lo hn hq zi zc zs zo co to =
    rw (
      length_device_rows p.ids p.capacities 0 p.devices,
      length_table_rows p.starts p.owners p.range 0 p.intervals,
      padded_zeros 256 p.devices p.ids _ li hn zi (ids_part p.ids p.capacities 0 p.devices (omega arith)),
      padded_zeros 256 p.devices p.capacities _ lc hn zc (capacities_part p.ids p.capacities 0 p.devices (omega arith)),
      padded_zeros 4096 p.intervals p.starts _ ls hq zs (starts_of_rows p.starts p.owners p.range p.intervals (omega arith) co to),
      padded_zeros 4096 p.intervals p.owners _ lo hq zo (owners_part p.starts p.owners p.range 0 p.intervals (omega arith)),
    )

-- ---- the state of a state's pool

pub device_rows_of : (ds : List Device) (d c : List ℕ) (i : ℕ) → ((j : ℕ) → j < length ds → at d (i + j) ≡ at (ids ds) j)
    → ((j : ℕ) → j < length ds → at c (i + j) ≡ at (capacities_of ds) j) → device_rows d c i (length ds) ≡ ds
device_rows_of [] d c i f g = refl
device_rows_of (e ∷ ds) d c i f g =
    let here : i + 0 ≡ i = omega arith in
    rw (
      sym (ap (at d) here) ∙ f 0 (omega arith),
      sym (ap (at c) here) ∙ g 0 (omega arith),
      device_rows_of ds d c (suc i)
          (λ j h. ap (at d) (omega arith) ∙ f (suc j) (omega arith))
          (λ j h. ap (at c) (omega arith) ∙ g (suc j) (omega arith)),
    )

pub table_rows_of : (rs : List (Run ℕ)) (p o : List ℕ) (R i x : ℕ) → ((j : ℕ) → j < length rs → at p (i + j) ≡ at (starts_of x rs) j)
    → ((j : ℕ) → j < length rs → at o (i + j) ≡ at (owners_of rs) j) → (1 ≤ length rs → x + total rs ≡ R) → table_rows p o R i (length rs) ≡ rs
table_rows_of [] p o R i x f g t = refl
table_rows_of ((n of d) ∷ []) p o R i x f g t =
    let here : i + 0 ≡ i = omega arith in
    let s : at p i ≡ x = sym (ap (at p) here) ∙ f 0 (omega arith) in
    let e : R - at p i ≡ n = omega (arith, t (omega arith)) in
    rw (e, sym (ap (at o) here) ∙ g 0 (omega arith))
table_rows_of ((n of d) ∷ (m of e) ∷ rs) p o R i x f g t =
    let here : i + 0 ≡ i = omega arith in
    let after : i + 1 ≡ suc i = omega arith in
    let s : at p i ≡ x = sym (ap (at p) here) ∙ f 0 (omega arith) in
    let s' : at p (suc i) ≡ x + n = sym (ap (at p) after) ∙ f 1 (omega arith) in
    let k : at p (suc i) - at p i ≡ n = omega arith in
    rw (
      k,
      sym (ap (at o) here) ∙ g 0 (omega arith),
      table_rows_of ((m of e) ∷ rs) p o R (suc i) (x + n)
          (λ j h. ap (at p) (omega arith) ∙ f (suc j) (omega arith))
          (λ j h. ap (at o) (omega arith) ∙ g (suc j) (omega arith))
          (λ h. omega (arith, t (omega arith))),
    )

pub length_ids : (ds : List Device) → length (ids ds) ≡ length ds
length_ids [] = refl
length_ids (e ∷ ds) = ap suc (length_ids ds)

pub length_capacities_of : (ds : List Device) → length (capacities_of ds) ≡ length ds
length_capacities_of [] = refl
length_capacities_of (e ∷ ds) = ap suc (length_capacities_of ds)

-- the places of a padded list
from_padded : (N : ℕ) (ys : List ℕ) (n : ℕ) → length ys ≡ n → (j : ℕ) → j < n → at (padded N ys) (0 + j) ≡ at ys j
from_padded N ys n l j h = ap (at (padded N ys)) (zero-add j) ∙ at_padded N ys j (omega arith)

pub state_of_pool_of : (s : State) → Valid s → state_of (pool_of s) ≡ s
unfolding state_of pool_of
state_of_pool_of s v =
    rw (
      device_rows_of s.devices (padded 256 (ids s.devices)) (padded 256 (capacities_of s.devices)) 0
          (from_padded 256 (ids s.devices) (length s.devices) (length_ids s.devices))
          (from_padded 256 (capacities_of s.devices) (length s.devices) (length_capacities_of s.devices)),
      table_rows_of s.table (padded 4096 (starts_of 0 s.table)) (padded 4096 (owners_of s.table)) s.range 0 0
          (from_padded 4096 (starts_of 0 s.table) (length s.table) (length_starts_of 0 s.table))
          (from_padded 4096 (owners_of s.table) (length s.table) (length_owners_of s.table))
          (λ h. omega (arith, v.covers (some h))),
    )
  where
    some : 1 ≤ length s.table → 1 ≤ length s.devices
    some h = go (length s.devices) refl
      where
        go : (n : ℕ) → length s.devices ≡ n → 1 ≤ n
        go zero e = omega (arith, ap length (v.empty e))
        go (suc n) e = omega arith

pub valid_pool_pool_of : (s : State) → Valid s → ValidPool (pool_of s)
valid_pool_pool_of s v = record { valid = subst Valid (sym (state_of_pool_of s v)) v; same = ap pool_of (state_of_pool_of s v) }
