-- The calls on an opened pool: their checks, one after another, each with its ending.
--
--   PlanOf o table k places r work next      r is the plan of the call k
--
-- Open: open_table (what `raise` asks)
-- limits: inside_limits
-- planned_called
-- add: add_two, add_four, add_six, add_first, add_settle
-- remove: remove_two, remove_five, remove_seven, remove_settle
-- resize: resize_two, resize_five, resize_settle
use mathlib.Core.Path.{◌≡◌, refl, sym, ap, ◌∙◌}
use mathlib.Core.Bool.{true, false}
use mathlib.Core.List.{List, [], ◌∷◌}
use Prim.Native.Nat.{ℕ, ◌≤◌, ◌<◌}
use native.Mathlib.Omega.{arith}
use lib.ListN.{length}
use borrow.Author.Tests.{le-leb, lt-leb}
use Rattle.std.specs.Prelude.{Result, Err}
use Rattle.refusals.specs.declared.Refusal.{Refusal}
use Rattle.refusals.specs.declared.Refusal.TheVariants.{Outside, Present, Absent, Full, OnlyDevice}
use Rattle.slicing.specs.Changes.{State, Change, change, add, remove, resize, accepted, settle, admit}
use Rattle.slicing.specs.Devices.{Device, device, present, insert, delete, update, Within}
use Rattle.slicing.specs.Limits.{max_devices, max_id, max_capacity, outside, device_outside}
use Rattle.slicing.specs.Runs.{◌of◌}
use Rattle.slicing.specs.ShareRule.{shares}
use Rattle.slicing.specs.SixSteps.{Move}
use Rattle.slicing.proofs.Limits.{or_false, outside_false}
use Rattle.slicing_core.specs.Rows.{at, device_rows}
use Rattle.slicing_core.proofs.Rows.{length_device_rows}
use Rattle.packed_runs.specs.Words.{runs, Labelled}
use Rattle.opened.specs.OpenPools.{devices_in, state_in, Open}
use Rattle.plans.specs.Plans.{Planned, state_by}
use Rattle.calls.specs.Calls.{change_of}
use Rattle.calls.specs.declared.Call.{Call}
use Rattle.opened.specs.declared.Opened.{Opened}
use Rattle.plans.specs.declared.Plan.{Plan}
use Rattle.plans.specs.declared.Rows.{Rows}
use Rattle.calls.proofs.MergedRows.{Prepared}
use Rattle.calls.proofs.NextDevices.{open_few}
use Rattle.plans.proofs.Planning.{planned_same, planned_refused}
use Rattle.opened.proofs.RowNames.{length_relabel, length_runs}

-- ---- an opened pool

module _ {o : Opened} {table : List ℕ} (a : Open o table) where
  pub open_table : (o.intervals ≤ 4096) × Labelled 256 table o.intervals
  open_table = (
    omega (arith, a.valid.fits, a.valid.room_most, length_relabel (at o.ids) (runs table 0 o.intervals), length_runs table 0 o.intervals),
    λ j h. omega (arith, a.labels j h, open_few a),
  )

length_devices : (o : Opened) → length (devices_in o) ≡ o.devices
length_devices o = length_device_rows o.ids o.capacities 0 o.devices

-- ---- limits

pub inside_limits : (d c : ℕ) → device_outside d c ≡ false → Within 0 (device d c)
inside_limits d c m =
    let both = or_false (outside max_id d) (outside max_capacity c) m in
    let known = outside_false max_id d both.0 in
    let sized = outside_false max_capacity c both.1 in
    record { above = known.0; known = known.1; some = sized.0; most = sized.1 }

-- ---- the change to the devices afterwards

-- what the rules say of the state by the names of the rows, they say of the opened pool
settle_prepared : {o : Opened} {table : List ℕ} {e : Opened} {rs : Rows} {work : List ℕ} {es : List Device} → Prepared o table e rs work es
    → (lent : List Move) → settle shares (state_by o rs work) lent (devices_in e) ≡ settle shares (state_in o table) lent es
settle_prepared {o} {table} {e} p lent = ap (λ s. settle shares s lent (devices_in e)) p.state ∙ ap (settle shares (state_in o table) lent) p.devices

admit_some : (s : State) (lent : List Move) (d c : ℕ) (ds : List Device) → 1 ≤ length ds → admit shares s lent d c ds ≡ settle shares s lent (insert d c ds)
admit_some s lent d c [] l = absurd (omega arith)
admit_some s lent d c (x ∷ ds) l = refl

-- ---- the checks

abbrev PlanOf : Opened → List ℕ → Change → ℕ → Result Plan Refusal → List ℕ → List ℕ → Type 0
PlanOf o table k places r work next = Planned (λ lent. change (state_in o table) lent k) places r work next

-- a call is the change that it asks for
pub planned_called : (o : Opened) (table : List ℕ) (j k : Call) {places : ℕ} {r : Result Plan Refusal} {work next : List ℕ} → j ≡ k
    → PlanOf o table (change_of k) places r work next → PlanOf o table (change_of j) places r work next
planned_called o table j k e = planned_same (λ lent l. ap (λ x. change (state_in o table) lent (change_of x)) (sym e))

module _ (o : Opened) (table : List ℕ) (d : ℕ) {places : ℕ} {r : Result Plan Refusal} {work next : List ℕ} where
  module _ (c : ℕ) where
    pub add_two : device_outside d c ≡ true → r ≡ Err Outside → PlanOf o table (add d c) places r work next
    unfolding change
    add_two m e = planned_refused (state_in o table) Outside e (λ lent l. rw m)

    pub resize_two : device_outside d c ≡ true → r ≡ Err Outside → PlanOf o table (resize d c) places r work next
    unfolding change
    resize_two m e = planned_refused (state_in o table) Outside e (λ lent l. rw m)

    module _ (m : device_outside d c ≡ false) where
      pub add_four : present d (devices_in o) ≡ true → r ≡ Err Present → PlanOf o table (add d c) places r work next
      unfolding change
      add_four g e = planned_refused (state_in o table) Present e (λ lent l. rw (m, g))

      pub add_six : present d (devices_in o) ≡ false → max_devices ≤ o.devices → r ≡ Err Full → PlanOf o table (add d c) places r work next
      unfolding change
      add_six g n e =
          planned_refused (state_in o table) Full e
          (λ lent l. rw (m, g, le-leb max_devices (length (devices_in o)) (omega (arith, length_devices o))))

      pub add_first : o.devices ≡ 0 → Planned (λ lent. accepted (state_in o table) lent (device d c ∷ []) ((o.range of d) ∷ []) []) places r work next
          → PlanOf o table (add d c) places r work next
      unfolding change
      add_first z =
          let none : devices_in o ≡ [] = ap (device_rows o.ids o.capacities 0) z in
          planned_same (λ lent l. rw (m, none))

      pub add_settle : present d (devices_in o) ≡ false → o.devices < max_devices → 1 ≤ o.devices → {e : Opened} {rs : Rows} {rows : List ℕ}
          → Prepared o table e rs rows (insert d c (devices_in o)) → Planned (λ lent. settle shares (state_by o rs rows) lent (devices_in e)) places r work next
          → PlanOf o table (add d c) places r work next
      unfolding change
      add_settle g n some p =
          planned_same (λ lent l. settle_prepared p lent
          ∙ sym (rw (m, g, lt-leb max_devices (length (devices_in o)) (omega (arith, length_devices o)))
          (admit_some (state_in o table) lent d c (devices_in o) (omega (arith, length_devices o)))))

      pub resize_five : present d (devices_in o) ≡ false → r ≡ Err Absent → PlanOf o table (resize d c) places r work next
      unfolding change
      resize_five g e = planned_refused (state_in o table) Absent e (λ lent l. rw (m, g))

      pub resize_settle : present d (devices_in o) ≡ true → {e : Opened} {rs : Rows} {rows : List ℕ}
          → Prepared o table e rs rows (update d c (devices_in o)) → Planned (λ lent. settle shares (state_by o rs rows) lent (devices_in e)) places r work next
          → PlanOf o table (resize d c) places r work next
      unfolding change
      resize_settle g p = planned_same (λ lent l. settle_prepared p lent ∙ sym (rw (m, g)))

  pub remove_two : outside max_id d ≡ true → r ≡ Err Outside → PlanOf o table (remove d) places r work next
  unfolding change
  remove_two i e = planned_refused (state_in o table) Outside e (λ lent l. rw i)

  module _ (i : outside max_id d ≡ false) where
    pub remove_five : present d (devices_in o) ≡ false → r ≡ Err Absent → PlanOf o table (remove d) places r work next
    unfolding change
    remove_five g e = planned_refused (state_in o table) Absent e (λ lent l. rw (i, g))

    pub remove_seven : present d (devices_in o) ≡ true → o.devices ≤ 1 → r ≡ Err OnlyDevice → PlanOf o table (remove d) places r work next
    unfolding change
    remove_seven g n e =
        planned_refused (state_in o table) OnlyDevice e (λ lent l. rw (i, g, le-leb (length (devices_in o)) 1 (omega (arith, length_devices o))))

    pub remove_settle : present d (devices_in o) ≡ true → 1 < o.devices → {e : Opened} {rs : Rows} {rows : List ℕ}
        → Prepared o table e rs rows (delete d (devices_in o)) → Planned (λ lent. settle shares (state_by o rs rows) lent (devices_in e)) places r work next
        → PlanOf o table (remove d) places r work next
    unfolding change
    remove_settle g n p =
        planned_same (λ lent l. settle_prepared p lent
        ∙ sym (rw (i, g, lt-leb (length (devices_in o)) 1 (omega (arith, length_devices o)))))
