-- The format, both ways: an image is the image of its state, and a valid state is the state of its image.
--
-- rows of a state's lists: device_rows_lists, table_rows_lists
-- a valid state fits: covered, ids_fit, capacities_fit, starts_fit, owners_fit
-- what its image holds: range_in_image_of, limit_in_image_of, devices_in_image_of, intervals_in_image_of, ids_in_image_of, capacities_in_image_of,
-- starts_in_image_of, owners_in_image_of
-- both ways: image_of_state_in, state_in_image_of, image_image_of, image_of_injective
use mathlib.Core.Path.{◌≡◌, refl, sym, ap, ap₂, ◌∙◌, subst}
use mathlib.Core.Bool.{Bool, true, false, ◌&&◌, false≢true}
use mathlib.Core.List.{List, [], ◌∷◌, ◌++◌, append-nil}
use Prim.Native.Nat.{ℕ, zero, suc, ◌+◌, ◌*◌, ◌^◌, ◌≤◌, ◌<◌}
use native.Mathlib.Nat.{zero-add}
use native.Mathlib.Omega.{arith}
use lib.Dec.{eqb, leb, ltb}
use lib.ListN.{length, take, drop, length-append}
use lib.Seq.{take_all}
use borrow.Author.Tests.{eqb-true, eq-eqb, ne_eqb, leb-true, le-leb, ltb-true, ltb-false}
use Rattle.sha1_blocks.specs.Fips180.{bytes}
use Rattle.slicing.specs.Changes.{State}
use Rattle.slicing.specs.Devices.{Device, ids, Rising}
use Rattle.slicing.specs.Runs.{Run, ◌of◌, one, total, owned, count, Coalesced}
use Rattle.slicing.specs.Validity.{Valid}
use Rattle.slicing.proofs.Limits.{capacity_size}
use Rattle.slicing.proofs.ShareRule.{share_of_absent}
use Rattle.slicing_core.specs.Rows.{at, device_rows, table_rows}
use Rattle.slicing_core.proofs.Rows.{length_device_rows}
use Rattle.pools.specs.Pools.{capacities_of, starts_of, owners_of}
use Rattle.pools.proofs.PaddedRows.{length_starts_of, length_owners_of}
use Rattle.pools.proofs.PoolLaws.{device_rows_of, table_rows_of, length_table_rows, length_ids, length_capacities_of}
use Rattle.image_numbers.specs.Format.{mark, version, head, device_bytes, interval_bytes, image_of, number_at, range_in, limit_in, devices_in, intervals_in, column, ids_in, capacities_in, starts_in, owners_in, state_in, marked, Image}
use Rattle.image_bytes.specs.RowBytes.{pair_bytes}
use Rattle.image_numbers.proofs.ByteNumbers.{Bytes, bytes_number_at, number_at_bytes}
use Rattle.image_numbers.proofs.ImageSizes.{length_device_bytes, length_image_of}
use Rattle.image_bytes.proofs.ImageRows.{device_bytes_rows, interval_bytes_rows, device_bytes_lists, interval_bytes_lists, pair_bytes_columns, column_first, column_second, joined}

-- ---- the rows of a state's lists

pub device_rows_lists : (ds : List Device) → device_rows (ids ds) (capacities_of ds) 0 (length ds) ≡ ds
device_rows_lists ds = device_rows_of ds (ids ds) (capacities_of ds) 0 (λ j h. ap (at (ids ds)) (zero-add j)) (λ j h. ap (at (capacities_of ds)) (zero-add j))

pub table_rows_lists : (x R : ℕ) (rs : List (Run ℕ)) → (1 ≤ length rs → x + total rs ≡ R) → table_rows (starts_of x rs) (owners_of rs) R 0 (length rs) ≡ rs
table_rows_lists x R rs =
    table_rows_of rs (starts_of x rs) (owners_of rs) R 0 x (λ j h. ap (at (starts_of x rs)) (zero-add j)) (λ j h. ap (at (owners_of rs)) (zero-add j))

-- ---- the numbers of a valid state fit

pub covered : (s : State) → Valid s → 1 ≤ length s.table → total s.table ≡ s.range
covered s v h = go (length s.devices) refl
  where
    go : (n : ℕ) → length s.devices ≡ n → total s.table ≡ s.range
    go zero e = absurd (omega (arith, ap length (v.empty e)))
    go (suc n) e = v.covers (omega arith)

pub ids_fit : (a : ℕ) (ds : List Device) → Rising a ds → (i : ℕ) → at (ids ds) i < 65536
ids_fit a [] h i = omega arith
ids_fit a (e ∷ ds) h zero = omega (arith, h.0.known)
ids_fit a (e ∷ ds) h (suc i) = ids_fit e.id ds h.1 i

pub capacities_fit : (a : ℕ) (ds : List Device) → Rising a ds → (i : ℕ) → at (capacities_of ds) i < 2 ^ 32
capacities_fit a [] h i = omega arith
capacities_fit a (e ∷ ds) h zero = capacity_size h.0.most
capacities_fit a (e ∷ ds) h (suc i) = capacities_fit e.id ds h.1 i

starts_below : (x N : ℕ) (rs : List (Run ℕ)) → 1 ≤ N → (1 ≤ length rs → x + total rs ≤ N) → Coalesced eqb rs → (i : ℕ) → at (starts_of x rs) i < N
starts_below x N [] l h c i = omega arith
starts_below x N ((n of d) ∷ rs) l h c zero = omega (arith, h (omega arith), c.0)
starts_below x N ((n of d) ∷ rs) l h c (suc i) = starts_below (x + n) N rs l (λ k. omega (arith, h (omega arith))) c.2 i

owners_below : (N : ℕ) (rs : List (Run ℕ)) → 1 ≤ N → Coalesced eqb rs → ((d : ℕ) → N ≤ d → owned d rs ≡ 0) → (i : ℕ) → at (owners_of rs) i < N
owners_below N [] l c h i = omega arith
owners_below N ((n of d) ∷ rs) l c h zero = go (ltb d N) refl
  where
    go : (t : Bool) → ltb d N ≡ t → d < N
    go true e = ltb-true d N e
    go false e = absurd (omega (arith, c.0, ap (λ t. one t * n) (eq-eqb d d refl), h d (ltb-false d N e)))
owners_below N ((n of d) ∷ rs) l c h (suc i) = owners_below N rs l c.2 (λ e k. omega (arith, h e k)) i

-- no device has an id that is too large
absent : (a d : ℕ) (ds : List Device) → Rising a ds → 65536 ≤ d → count d (ids ds) ≡ 0
absent a d [] h l = refl
absent a d (e ∷ ds) h l =
    omega (arith, ap one (ne_eqb d e.id (λ k. omega (arith, h.0.known))), absent e.id d ds h.1 l)

module _ (s : State) (v : Valid s) where
  pub starts_fit : (i : ℕ) → at (starts_of 0 s.table) i < 2 ^ 32
  starts_fit = starts_below 0 (2 ^ 32) s.table (omega arith) (λ h. omega (arith, covered s v h, v.most)) v.coalesced

  pub owners_fit : (i : ℕ) → at (owners_of s.table) i < 65536
  owners_fit = owners_below 65536 s.table (omega arith) v.coalesced (λ d l. go d l (length s.devices) refl)
    where
      go : (d : ℕ) → 65536 ≤ d → (n : ℕ) → length s.devices ≡ n → owned d s.table ≡ 0
      go d l zero e = ap (owned d) (v.empty e)
      go d l (suc n) e = v.held (omega arith) d ∙ share_of_absent s.range s.devices d (absent 0 d s.devices v.rising l)

-- ---- what the image of a valid state holds

module _ (s : State) (v : Valid s) where
  pub range_in_image_of : range_in (image_of s) ≡ s.range
  unfolding image_of
  range_in_image_of = number_at_bytes (bytes 3 mark ++ bytes 2 version) [] 8 s.range (omega (arith, v.most))

  pub limit_in_image_of : limit_in (image_of s) ≡ s.limit
  unfolding image_of
  limit_in_image_of = number_at_bytes (bytes 3 mark ++ bytes 2 version ++ bytes 8 s.range) [] 2 s.limit (omega (arith, v.room_most))

  pub devices_in_image_of : devices_in (image_of s) ≡ length s.devices
  unfolding image_of
  devices_in_image_of =
      number_at_bytes (bytes 3 mark ++ bytes 2 version ++ bytes 8 s.range ++ bytes 2 s.limit) [] 2 (length s.devices) (omega (arith, v.few))

  pub intervals_in_image_of : intervals_in (image_of s) ≡ length s.table
  unfolding image_of
  intervals_in_image_of =
      number_at_bytes (bytes 3 mark ++ bytes 2 version ++ bytes 8 s.range ++ bytes 2 s.limit ++ bytes 2 (length s.devices)) []
      2 (length s.table) (omega (arith, v.fits, v.room_most))

  -- the device rows, behind the head
  abbrev top : List ℕ
  top = head s.range s.limit (length s.devices) (length s.table)

  image_devices : image_of s ≡ top ++ pair_bytes 2 4 (ids s.devices) (capacities_of s.devices) 0 (length s.devices) ++ interval_bytes 0 s.table
  unfolding image_of
  image_devices = ap (λ r. top ++ r ++ interval_bytes 0 s.table) (device_bytes_lists s.devices)

  pub ids_in_image_of : ids_in (image_of s) ≡ ids s.devices
  ids_in_image_of =
      ap₂ (λ r n. column r 2 19 n) image_devices devices_in_image_of
      ∙ column_first 2 4 refl (ids s.devices) (capacities_of s.devices) (ids_fit 0 s.devices v.rising)
      top (interval_bytes 0 s.table) (length s.devices) (length_ids s.devices)

  pub capacities_in_image_of : capacities_in (image_of s) ≡ capacities_of s.devices
  capacities_in_image_of =
      ap₂ (λ r n. column r 4 21 n) image_devices devices_in_image_of
      ∙ column_second 2 4 refl (ids s.devices) (capacities_of s.devices) (capacities_fit 0 s.devices v.rising)
      top (interval_bytes 0 s.table) (length s.devices) (length_capacities_of s.devices)

  -- the interval rows, behind head and device rows
  abbrev front : List ℕ
  front = top ++ device_bytes s.devices

  image_intervals : image_of s ≡ front ++ pair_bytes 4 2 (starts_of 0 s.table) (owners_of s.table) 0 (length s.table) ++ []
  unfolding image_of
  image_intervals = ap (λ r. front ++ r) (interval_bytes_lists 0 s.table) ∙ sym (append-nil _)

  intervals_at : 19 + 6 * devices_in (image_of s) ≡ length front
  intervals_at = omega (arith, devices_in_image_of, length-append top (device_bytes s.devices), length_device_bytes s.devices)

  pub starts_in_image_of : starts_in (image_of s) ≡ starts_of 0 s.table
  starts_in_image_of =
      ap₂ (column (image_of s) 4) intervals_at intervals_in_image_of ∙ ap (λ r. column r 4 (length front) (length s.table)) image_intervals
      ∙ column_first 4 2 refl (starts_of 0 s.table) (owners_of s.table) (starts_fit s v) front [] (length s.table) (length_starts_of 0 s.table)

  pub owners_in_image_of : owners_in (image_of s) ≡ owners_of s.table
  owners_in_image_of =
      ap₂ (λ i q. column (image_of s) 2 (i + 4) q) intervals_at intervals_in_image_of
      ∙ ap (λ r. column r 2 (length front + 4) (length s.table)) image_intervals
      ∙ column_second 4 2 refl (starts_of 0 s.table) (owners_of s.table) (owners_fit s v) front [] (length s.table) (length_owners_of s.table)

  pub state_in_image_of : state_in (image_of s) ≡ s
  unfolding state_in
  state_in_image_of =
      rw (
        ids_in_image_of,
        capacities_in_image_of,
        starts_in_image_of,
        owners_in_image_of,
        range_in_image_of,
        limit_in_image_of,
        devices_in_image_of,
        intervals_in_image_of,
        device_rows_lists s.devices,
        table_rows_lists 0 s.range s.table (λ h. omega (arith, covered s v h)),
      )

  pub image_image_of : Image (image_of s)
  unfolding image_of
  image_image_of = record {
    first = ap (λ t. t && eqb (number_at (image_of s) 0 3) mark) (le-leb 19 (length (image_of s)) (omega (arith, length_image_of s)));
    second = refl;
    sound = record {
      exact = omega (arith, length_image_of s, devices_in_image_of, intervals_in_image_of);
      valid = subst Valid (sym state_in_image_of) v;
    };
  }

pub image_of_injective : (s t : State) → Valid s → Valid t → image_of s ≡ image_of t → s ≡ t
image_of_injective s t v w e = sym (state_in_image_of s v) ∙ ap state_in e ∙ state_in_image_of t w

-- ---- an image is the image of its state

marked_parts : (xs : List ℕ) → marked xs ≡ true → (19 ≤ length xs) × (number_at xs 0 3 ≡ mark)
marked_parts xs h = go (leb 19 (length xs)) (eqb (number_at xs 0 3) mark) refl refl h
  where
    go : (a c : Bool) → leb 19 (length xs) ≡ a → eqb (number_at xs 0 3) mark ≡ c → a && c ≡ true → (19 ≤ length xs) × (number_at xs 0 3 ≡ mark)
    go true true e f k = (leb-true 19 (length xs) e, eqb-true (number_at xs 0 3) mark f)
    go true false e f k = absurd (false≢true k)
    go false c e f k = absurd (false≢true k)

pub image_of_state_in : (xs : List ℕ) → Bytes xs → Image xs → image_of (state_in xs) ≡ xs
unfolding image_of state_in
image_of_state_in xs b h =
    ap₂ (λ m k. head (range_in xs) (limit_in xs) m k ++ device_bytes ds ++ interval_bytes 0 rs) (length_device_rows (ids_in xs) (capacities_in xs) 0 n)
    (length_table_rows (starts_in xs) (owners_in xs) (range_in xs) 0 q)
    ∙ joined xs 0 (19 + 6 * n) (6 * q) (joined xs 0 19 (6 * n) first devices) (rw (zero-add (19 + 6 * n)) intervals)
    ∙ take_all (19 + 6 * n + 6 * q) xs (omega (arith, h.sound.exact))
  where
    n : ℕ
    n = devices_in xs

    q : ℕ
    q = intervals_in xs

    ds : List Device
    ds = device_rows (ids_in xs) (capacities_in xs) 0 n

    rs : List (Run ℕ)
    rs = table_rows (starts_in xs) (owners_in xs) (range_in xs) 0 q

    number : (i k : ℕ) → i + k ≤ 19 → bytes k (number_at xs i k) ≡ take k (drop i xs)
    number i k l = bytes_number_at xs i k b (omega (arith, (marked_parts xs h.first).0))

    first : head (range_in xs) (limit_in xs) n q ≡ take 19 xs
    first =
        joined xs 0 17 2
        (joined xs 0 15 2
        (joined xs 0 13 2
        (joined xs 0 5 8
        (joined xs 0 3 2 (ap (bytes 3) (sym (marked_parts xs h.first).1) ∙ number 0 3 (omega arith))
        (ap (bytes 2) (sym h.second) ∙ number 3 2 (omega arith)))
        (number 5 8 (omega arith)))
        (number 13 2 (omega arith)))
        (number 15 2 (omega arith)))
        (number 17 2 (omega arith))

    devices : device_bytes ds ≡ take (6 * n) (drop 19 xs)
    devices = device_bytes_rows (ids_in xs) (capacities_in xs) 0 n ∙ pair_bytes_columns xs 2 4 19 n refl b (omega (arith, h.sound.exact))

    intervals : interval_bytes 0 rs ≡ take (6 * q) (drop (19 + 6 * n) xs)
    intervals =
        interval_bytes_rows (starts_in xs) (owners_in xs) (range_in xs) q h.sound.valid.coalesced
        (λ l. covered (state_in xs) h.sound.valid (omega (arith, length_table_rows (starts_in xs) (owners_in xs) (range_in xs) 0 q)))
        ∙ pair_bytes_columns xs 4 2 (19 + 6 * n) q refl b (omega (arith, h.sound.exact))
