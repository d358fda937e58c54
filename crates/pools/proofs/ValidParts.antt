-- Validity of a pool in the parts that are decided one by one.
--
-- from a valid pool: valid_limited, valid_cleared, valid_empty, valid_covered, valid_coalesced, valid_covers
-- to one: parts_valid
use mathlib.Core.Path.{◌≡◌, refl, sym, ap, ◌∙◌, subst}
use mathlib.Core.Bool.{Bool, true, false}
use mathlib.Core.List.{List}
use Prim.Native.Nat.{ℕ, zero, suc, ◌+◌, ◌≤◌, ◌<◌}
use native.Mathlib.Omega.{arith}
use lib.Dec.{eqb}
use lib.ListN.{length}
use borrow.Author.Tests.{eqb-true}
use Rattle.slicing.specs.Devices.{Device, ids, Rising}
use Rattle.slicing.specs.Runs.{Run, one, total, owned, count, expand, Coalesced}
use Rattle.slicing.specs.ShareRule.{shares, share_of}
use Rattle.slicing.proofs.Least.{rival_count}
use Rattle.slicing.proofs.Runs.{owners, length_expand, count_expand}
use Rattle.slicing.proofs.ShareRule.{total_shares, owners_shares, shares_distinct}
use Rattle.slicing_core.specs.Rows.{at, device_rows, table_rows}
use Rattle.slicing_core.proofs.Rows.{length_device_rows}
use Rattle.pools.specs.declared.Pool.{Pool}
use Rattle.pools.specs.Pools.{state_of, pool_of, padded, starts_of, owners_of, capacities_of, ValidPool, Zeros, Limited, Cleared, Covered}
use Rattle.pools.proofs.PaddedRows.{length_starts_of, length_owners_of}
use Rattle.pools.proofs.PoolLaws.{length_table_rows, zeros_padded, length_ids, length_capacities_of, pool_of_parts}

module _ (p : Pool) (v : ValidPool p) where
  some_devices : 1 ≤ p.devices → 1 ≤ length (state_of p).devices
  unfolding state_of
  some_devices h = omega (arith, length_device_rows p.ids p.capacities 0 p.devices)

  pub valid_limited : Limited p
  unfolding state_of
  valid_limited = record {
    some = v.valid.some;
    most = v.valid.most;
    room = v.valid.room;
    room_most = v.valid.room_most;
    few = omega (arith, v.valid.few, length_device_rows p.ids p.capacities 0 p.devices);
    fits = omega (arith, v.valid.fits, length_table_rows p.starts p.owners p.range 0 p.intervals);
  }

  pub valid_rising : Rising 0 (device_rows p.ids p.capacities 0 p.devices)
  unfolding state_of
  valid_rising = v.valid.rising

  -- the places after n of a padded list are 0
  cleared : (N n : ℕ) (xs ys : List ℕ) → padded N ys ≡ xs → length ys ≡ n → Zeros xs n
  cleared N n xs ys e l = subst (λ (zs : List ℕ). Zeros zs n) e (subst (λ (k : ℕ). Zeros (padded N ys) k) l (zeros_padded N ys))

  pub valid_cleared : Cleared p
  unfolding state_of pool_of
  valid_cleared = record {
    no_ids = cleared 256 p.devices p.ids (ids ds) (ap (λ q. q.ids) v.same) (length_ids ds ∙ n);
    no_capacities = cleared 256 p.devices p.capacities (capacities_of ds) (ap (λ q. q.capacities) v.same) (length_capacities_of ds ∙ n);
    no_starts = cleared 4096 p.intervals p.starts (starts_of 0 rs) (ap (λ q. q.starts) v.same) (length_starts_of 0 rs ∙ q);
    no_owners = cleared 4096 p.intervals p.owners (owners_of rs) (ap (λ q. q.owners) v.same) (length_owners_of rs ∙ q);
  }
    where
      ds : List Device
      ds = device_rows p.ids p.capacities 0 p.devices

      rs : List (Run ℕ)
      rs = table_rows p.starts p.owners p.range 0 p.intervals

      n : length ds ≡ p.devices
      n = length_device_rows p.ids p.capacities 0 p.devices

      q : length rs ≡ p.intervals
      q = length_table_rows p.starts p.owners p.range 0 p.intervals

  pub valid_empty : p.devices ≡ 0 → p.intervals ≡ 0
  unfolding state_of
  valid_empty e =
      omega (
        arith,
        ap length (v.valid.empty (length_device_rows p.ids p.capacities 0 p.devices ∙ e)),
        length_table_rows p.starts p.owners p.range 0 p.intervals,
      )

  pub valid_covered : 1 ≤ p.devices → Covered p.range p.ids p.capacities p.devices p.starts p.owners p.intervals
  unfolding state_of
  valid_covered h = record {
    coalesced = v.valid.coalesced;
    covers = v.valid.covers (some_devices h);
    held = λ i l. v.valid.held (some_devices h) (at p.ids i);
  }

  pub valid_coalesced : Coalesced eqb (table_rows p.starts p.owners p.range 0 p.intervals)
  unfolding state_of
  valid_coalesced = v.valid.coalesced

  -- while there is an interval, they cover the range
  pub valid_covers : 1 ≤ p.intervals → total (table_rows p.starts p.owners p.range 0 p.intervals) ≡ p.range
  valid_covers h = go p.devices refl
    where
      go : (k : ℕ) → p.devices ≡ k → total (table_rows p.starts p.owners p.range 0 p.intervals) ≡ p.range
      go zero e = absurd (omega (arith, valid_empty e))
      go (suc k) e = (valid_covered (omega arith)).covers

-- a listed id stands in a row
pub record Listed (ids : List ℕ) (i n d : ℕ) : Type 0 where
  pub row : ℕ
  pub first : i ≤ row
  pub last : row < i + n
  pub here : at ids row ≡ d

listed : (xs cs : List ℕ) (i n d : ℕ) → 1 ≤ count d (ids (device_rows xs cs i n)) → Listed xs i n d
listed xs cs i zero d h = absurd (omega arith)
listed xs cs i (suc n) d h = go (eqb d (at xs i)) refl (λ k. listed xs cs (suc i) n d k)
  where
    go : (b : Bool) → eqb d (at xs i) ≡ b → (1 ≤ count d (ids (device_rows xs cs (suc i) n)) → Listed xs (suc i) n d) → Listed xs i (suc n) d
    go true e ih = record { row = i; first = omega arith; last = omega arith; here = sym (eqb-true d (at xs i) e) }
    go false e ih =
        let r : Listed xs (suc i) n d = ih (omega (arith, h, ap one e)) in
        record { row = r.row; first = omega (arith, r.first); last = omega (arith, r.last); here = r.here }

pub parts_valid : (p : Pool) → length p.ids ≡ 256 → length p.capacities ≡ 256 → length p.starts ≡ 4096 → length p.owners ≡ 4096
    → Limited p → Rising 0 (device_rows p.ids p.capacities 0 p.devices)
    → Cleared p → (p.devices ≡ 0 → p.intervals ≡ 0)
    → (1 ≤ p.devices → Covered p.range p.ids p.capacities p.devices p.starts p.owners p.intervals) → ValidPool p
unfolding state_of
parts_valid p li lc ls lo m r z e c = record {
  valid = record {
    some = m.some;
    most = m.most;
    room = m.room;
    room_most = m.room_most;
    few = omega (arith, m.few, n);
    rising = r;
    fits = omega (arith, m.fits, q);
    coalesced = coalesced;
    empty = λ h. ap (table_rows p.starts p.owners p.range 0) (e (omega (arith, n)));
    covers = λ h. (c (omega (arith, n))).covers;
    held = λ h. held (omega (arith, n));
  };
  same = pool_of_parts p li lc ls lo m.few (omega (arith, m.fits, m.room_most)) z.no_ids z.no_capacities z.no_starts z.no_owners coalesced covers;
}
  where
    ds : List Device
    ds = device_rows p.ids p.capacities 0 p.devices

    rs : List (Run ℕ)
    rs = table_rows p.starts p.owners p.range 0 p.intervals

    n : length (device_rows p.ids p.capacities 0 p.devices) ≡ p.devices
    n = length_device_rows p.ids p.capacities 0 p.devices

    q : length (table_rows p.starts p.owners p.range 0 p.intervals) ≡ p.intervals
    q = length_table_rows p.starts p.owners p.range 0 p.intervals

    some : 1 ≤ p.intervals → 1 ≤ p.devices
    some h = go p.devices refl
      where
        go : (k : ℕ) → p.devices ≡ k → 1 ≤ k
        go zero x = omega (arith, e x)
        go (suc k) x = omega arith

    covers : 1 ≤ p.intervals → total (table_rows p.starts p.owners p.range 0 p.intervals) ≡ p.range
    covers h = (c (some h)).covers

    coalesced : Coalesced eqb (table_rows p.starts p.owners p.range 0 p.intervals)
    coalesced = go p.devices refl
      where
        go : (k : ℕ) → p.devices ≡ k → Coalesced eqb (table_rows p.starts p.owners p.range 0 p.intervals)
        go zero x = subst (λ (i : ℕ). Coalesced eqb (table_rows p.starts p.owners p.range 0 i)) (sym (e x)) tt
        go (suc k) x = (c (omega arith)).coalesced

    held : 1 ≤ p.devices → (d : ℕ) → owned d rs ≡ share_of p.range ds d
    held h d =
        sym (count_expand d rs)
        ∙ rival_count (shares p.range ds) (expand rs) (shares_distinct p.range ds r)
        (length_expand rs ∙ (c h).covers ∙ sym (total_shares p.range ds r (omega (arith, n)))) each d
      where
        each : (f : ℕ) → 1 ≤ count f (owners (shares p.range ds)) → count f (expand rs) ≡ owned f (shares p.range ds)
        each f k =
            let i : Listed p.ids 0 p.devices f =
            listed p.ids p.capacities 0 p.devices f (omega (arith, ap (count f) (owners_shares p.range ds))) in
            count_expand f rs ∙ subst (λ (g : ℕ). owned g rs ≡ share_of p.range ds g) i.here ((c h).held i.row (omega (arith, i.last)))
