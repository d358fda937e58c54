-- Laws of opened pools: what the validity of the state gives of the arrays.
--
-- devices: open_few, open_rising, open_ascending, open_ids and open_capacities (bounds), open_share (each has its share)
-- intervals: open_length, open_intervals, open_points (their total), open_some (none is empty)
use mathlib.Core.Path.{◌≡◌, refl, sym, ap, ◌∙◌}
use mathlib.Core.Bool.{Bool}
use mathlib.Core.List.{List}
use mathlib.Core.Logic.{◌⊎◌, inl, inr}
use Prim.Native.Nat.{ℕ, zero, suc, ◌+◌, ◌/◌, ◌≤◌, ◌<◌}
use native.Mathlib.Nat.{eq-or-lt_of_le}
use native.Mathlib.Omega.{arith}
use lib.Dec.{eqb}
use lib.ListN.{length}
use Rattle.slicing.specs.Devices.{Rising}
use Rattle.slicing.specs.Runs.{total, owned, relabel, Coalesced}
use Rattle.slicing.specs.ShareRule.{share_of}
use Rattle.slicing.proofs.Runs.{total_relabel}
use Rattle.slicing_core.specs.Rows.{at}
use Rattle.slicing_core.specs.Stages.{Below, Ascending}
use Rattle.slicing_core.proofs.DeviceRows.{ascending_rising, below_rising, capacities_rising}
use Rattle.slicing_core.proofs.Rows.{length_device_rows}
use Rattle.packed_runs.specs.Words.{runs}
use Rattle.opened.specs.declared.Opened.{Opened}
use Rattle.opened.specs.OpenPools.{devices_in, Open}
use Rattle.opened.proofs.RowNames.{length_relabel, length_runs, named_row, owned_names}

-- runs that are coalesced under any names are not empty
sizes_from : {A : Type 0} (eq : A → A → Bool) (f : ℕ → A) (xs : List ℕ) (i n : ℕ) → Coalesced eq (relabel f (runs xs i n)) → (j : ℕ) → i ≤ j → j < i + n
    → 1 ≤ at xs j / 65536
sizes_from eq f xs i zero c j a b = absurd (omega arith)
sizes_from eq f xs i (suc n) c j a b = go (eq-or-lt_of_le a) (λ s. sizes_from eq f xs (suc i) n c.2 j s (omega arith))
  where
    go : (i ≡ j) ⊎ (i < j) → (suc i ≤ j → 1 ≤ at xs j / 65536) → 1 ≤ at xs j / 65536
    go (inl e) ih = rw (← e) c.0
    go (inr s) ih = ih s

module _ {o : Opened} {table : List ℕ} (h : Open o table) where
  -- ---- devices

  devices_length : length (devices_in o) ≡ o.devices
  devices_length = length_device_rows o.ids o.capacities 0 o.devices

  pub open_few : o.devices ≤ 256
  open_few = omega (arith, h.valid.few, devices_length)

  pub open_rising : Rising 0 (devices_in o)
  open_rising = h.valid.rising

  pub open_ids : Below 65536 o.ids o.devices
  open_ids = below_rising o.ids o.capacities o.devices open_rising

  pub open_capacities : Below 4294967296 o.capacities o.devices
  open_capacities = capacities_rising o.ids o.capacities o.devices open_rising

  pub open_ascending : Ascending o.ids o.devices
  open_ascending = ascending_rising o.ids o.capacities o.devices open_rising

  pub open_share : (i : ℕ) → i < o.devices → at o.has i ≡ share_of o.range (devices_in o) (at o.ids i)
  open_share i l =
      h.held i l ∙ sym (owned_names o.ids o.devices open_ascending open_ids table o.intervals h.labels i)
      ∙ ap (λ x. owned x (relabel (at o.ids) (runs table 0 o.intervals))) (named_row o.ids o.devices i l)
      ∙ h.valid.held (omega (arith, devices_length)) (at o.ids i)

  -- ---- intervals

  pub open_length : length (relabel (at o.ids) (runs table 0 o.intervals)) ≡ o.intervals
  open_length = length_relabel (at o.ids) (runs table 0 o.intervals) ∙ length_runs table 0 o.intervals

  pub open_intervals : o.intervals ≤ 4096
  open_intervals = omega (arith, h.valid.fits, h.valid.room_most, open_length)

  pub open_points : total (runs table 0 o.intervals) ≤ 4294967296
  open_points = go o.devices refl
    where
      same : total (relabel (at o.ids) (runs table 0 o.intervals)) ≡ total (runs table 0 o.intervals)
      same = total_relabel (at o.ids) (runs table 0 o.intervals)

      go : (k : ℕ) → o.devices ≡ k → total (runs table 0 o.intervals) ≤ 4294967296
      go zero e = omega (arith, same, ap total (h.valid.empty (devices_length ∙ e)))
      go (suc k) e = omega (arith, same, h.valid.covers (omega (arith, devices_length)), h.valid.most)

  pub open_some : (i : ℕ) → i < o.intervals → 1 ≤ at table i / 65536
  open_some i l = sizes_from eqb (at o.ids) table 0 o.intervals h.valid.coalesced i (omega arith) (omega arith)
