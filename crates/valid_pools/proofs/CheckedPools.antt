-- A pool's validity by the parts that `open_cleared` decides, and the pool opened.
--
--   table_of p           the intervals of p
--   Opens p o table     o is the pool p opened, its table in the array
--
-- a valid pool: valid_formed
-- the pool entered: entered_opens, filled_opens (with what each row has)
-- rows of equal arrays: wide_rising, wide_ascending, wide_below
-- the pool opened: pool_opened
-- no device: empty_valid, empty_opened
-- some device, and what each is due by the rule in force: valid_dealt and dealt_valid (a pool that is formed is valid exactly where its
-- intervals are dealt so), dealt_decides, dealt_opened
use mathlib.Core.Path.{◌≡◌, sym, ap, ◌∙◌, subst}
use mathlib.Core.Bool.{Bool}
use mathlib.Core.List.{List}
use Prim.Native.Nat.{ℕ, ◌≤◌, ◌<◌}
use native.Mathlib.Omega.{arith}
use lib.ListN.{length, replicate}
use Rattle.slicing.specs.Devices.{Rising}
use Rattle.slicing.specs.Runs.{Run, owned, relabel}
use Rattle.slicing.specs.ShareRule.{shares}
use Rattle.slicing.specs.Validity.{Valid}
use Rattle.slicing_core.specs.Rows.{at, rows, device_rows, table_rows}
use Rattle.slicing_core.specs.Stages.{Below, Ascending, Decides}
use Rattle.slicing_core.proofs.DeviceRows.{ascending_rising, below_rising}
use Rattle.slicing_core.proofs.Rows.{length_device_rows}
use Rattle.packed_runs.specs.Words.{runs, room, Labelled}
use Rattle.opened.specs.declared.Opened.{Opened}
use Rattle.opened.specs.OpenPools.{state_in, Open}
use Rattle.pools.specs.declared.Pool.{Pool}
use Rattle.pools.specs.Pools.{state_of, ValidPool, Formed, Covered}
use Rattle.pools.proofs.ValidParts.{valid_limited, valid_rising, valid_cleared, valid_empty, valid_covered, parts_valid}
use Rattle.pool_checks.specs.Tables.{Rowed, Dealt}
use Rattle.pool_checks.proofs.Deciding.{decides_iff}
use Rattle.pool_checks.proofs.SameRows.{rising_same}
use Rattle.valid_pools.specs.Opening.{opened_with, Widened, Entered}
use Rattle.valid_pools.proofs.HeldRows.{owned_row, owned_present}

abbrev pub table_of : Pool → List (Run ℕ)
table_of p = table_rows p.starts p.owners p.range 0 p.intervals

pub valid_formed : (p : Pool) → ValidPool p → Formed p
valid_formed p v = record { limited = valid_limited p v; rising = valid_rising p v; cleared = valid_cleared p v; empty = valid_empty p v }

-- ---- a pool entered

abbrev Opens : Pool → Opened → List ℕ → Type 0
Opens p o table = Open o table × (state_in o table ≡ state_of p)

abbrev with_has : Opened → List ℕ → Opened
with_has o has =
    record { range = o.range; limit = o.limit; devices = o.devices; ids = o.ids; capacities = o.capacities; has = has; intervals = o.intervals }

module _ {p : Pool} {o : Opened} (n : Entered p o) (table : List ℕ) where
  pub entered_opens : Opens p (opened_with p o.ids o.capacities (replicate 256 0)) table → Opens p o table
  entered_opens h = subst (λ (x : Opened). Opens p x table) (sym n.same) h

  pub filled_opens : (has : List ℕ) → Opens p (opened_with p o.ids o.capacities has) table → Opens p (with_has o has) table
  filled_opens has h = subst (λ (x : Opened). Opens p (with_has x has) table) (sym n.same) h

-- ---- wide arrays with the pool's devices

module _ (p : Pool) {ids capacities : List ℕ} (wi : Widened p.ids 256 ids) (wc : Widened p.capacities 256 capacities) where
  pub wide_rising : Formed p → Rising 0 (device_rows ids capacities 0 p.devices)
  wide_rising f = rising_same p.devices (sym wi.same) (sym wc.same) f.rising

  pub wide_ascending : Formed p → Ascending ids p.devices
  wide_ascending f = ascending_rising ids capacities p.devices (wide_rising f)

  pub wide_below : Formed p → Below 65536 ids p.devices
  wide_below f = below_rising ids capacities p.devices (wide_rising f)

  module _ (has table : List ℕ) (e : relabel (at ids) (runs table 0 p.intervals) ≡ table_of p) where
    state_opened : state_in (opened_with p ids capacities has) table ≡ state_of p
    unfolding state_of
    state_opened = rw (e, wi.same, wc.same)

    pub pool_opened : ValidPool p → Labelled p.devices table p.intervals
        → ((i : ℕ) → i < p.devices → at has i ≡ owned i (runs table 0 p.intervals)) → length has ≡ 256 → length table ≡ room
        → Opens p (opened_with p ids capacities has) table
    pool_opened v l h s t = (
      record {
        valid = subst Valid (sym state_opened) v.valid;
        labels = l;
        held = h;
        ids_size = ap length wi.same ∙ wi.size;
        capacities_size = ap length wc.same ∙ wc.size;
        has_size = s;
        table_size = t;
      },
      state_opened,
    )

  module _ (ls : length p.starts ≡ 4096) (lo : length p.owners ≡ 4096) (f : Formed p) where
    formed_valid : (1 ≤ p.devices → Covered p.range p.ids p.capacities p.devices p.starts p.owners p.intervals) → ValidPool p
    formed_valid = parts_valid p wi.size wc.size ls lo f.limited f.rising f.cleared f.empty

    pub empty_valid : p.devices ≡ 0 → ValidPool p
    empty_valid none = formed_valid (λ k. absurd (omega arith))

    pub empty_opened : (has table : List ℕ) → p.devices ≡ 0 → length has ≡ 256 → length table ≡ room
        → Opens p (opened_with p ids capacities has) table
    empty_opened has table none s t =
        let q : p.intervals ≡ 0 = f.empty none in
        pool_opened has table (rw q) (empty_valid none) (λ i l. absurd (omega arith)) (λ i l. absurd (omega arith)) s t

    module _ (some : 1 ≤ p.devices) (due : List ℕ)
        (e : rows due ids 0 p.devices ≡ shares p.range (device_rows ids capacities 0 p.devices)) where
      due_row : (i : ℕ) → i < p.devices → owned (at ids i) (rows due ids 0 p.devices) ≡ at due i
      due_row i l = owned_row due ids p.devices i (wide_ascending f) (wide_below f) l

      -- of a valid pool's intervals everyone has what the rule gives
      valid_owned : ValidPool p → (d : ℕ) → owned d (table_of p) ≡ owned d (rows due ids 0 p.devices)
      unfolding state_of
      valid_owned v d =
          rw (e, wi.same, wc.same) (v.valid.held (omega (arith, length_device_rows p.ids p.capacities 0 p.devices)) d)

      valid_dealt : ValidPool p → Dealt p.starts p.owners p.intervals p.range ids p.devices due
      valid_dealt v = record {
        coalesced = (valid_covered p v some).coalesced;
        covers = (valid_covered p v some).covers;
        known = λ cs d h. owned_present d due ids cs 0 p.devices (omega (arith, valid_owned v d));
        held = λ i l. valid_owned v (at ids i) ∙ due_row i l;
      }

      dealt_valid : Dealt p.starts p.owners p.intervals p.range ids p.devices due → ValidPool p
      dealt_valid d = formed_valid (λ k. rw (wi.same, wc.same) at covered)
        where
          covered : Covered p.range ids capacities p.devices p.starts p.owners p.intervals
          covered = record {
            coalesced = d.coalesced;
            covers = d.covers;
            held = λ i l. d.held i l ∙ sym (due_row i l) ∙ ap (owned (at ids i)) e;
          }

      pub dealt_decides : (b : Bool) → Decides b (Dealt p.starts p.owners p.intervals p.range ids p.devices due) → Decides b (ValidPool p)
      dealt_decides b =
          decides_iff {P = Dealt p.starts p.owners p.intervals p.range ids p.devices due} {Q = ValidPool p} b dealt_valid valid_dealt

      pub dealt_opened : Dealt p.starts p.owners p.intervals p.range ids p.devices due
          → (has table : List ℕ) → Rowed p.starts p.owners p.intervals p.range ids p.devices table
          → ((i : ℕ) → i < p.devices → at has i ≡ owned i (runs table 0 p.intervals)) → length has ≡ 256 → length table ≡ room
          → Opens p (opened_with p ids capacities has) table
      dealt_opened d has table r h s t = pool_opened has table r.same (dealt_valid d) r.labels h s t
