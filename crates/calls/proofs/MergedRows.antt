-- From an opened pool to what `settle` asks: the rows that take part in each change, with their table, and the devices afterwards.
--
--   Shared o n d c e               e has the n devices of d and c, each with its share, and the numbers of o: what `shared` ensures
--   Rowed o table rs work          the rows rs have the table of o
--   Leaving e rs                   the rows rs become those of e, but for the one that goes
--   Prepared o table e rs work es  what `settle` asks, that the state is that of o, and that the devices afterwards are es
--
-- rows: present_inserted (a row more, of no points)
-- Prepared: prepared_add, prepared_remove, prepared_resize
use mathlib.Core.Path.{◌≡◌, refl, sym, ap, ◌∙◌, subst}
use mathlib.Core.Bool.{Bool, true, false}
use mathlib.Core.List.{List, ◌∷◌}
use mathlib.Core.Logic.{◌⊎◌, inl, inr}
use Prim.Native.Nat.{ℕ, zero, suc, ◌+◌, ◌-◌, ◌%◌, ◌≤◌, ◌<◌}
use native.Mathlib.Nat.{eq-or-lt_of_le}
use native.Mathlib.Numerals.{add-one}
use native.Mathlib.Omega.{arith}
use lib.Dec.{eqb}
use lib.ListN.{length, set}
use borrow.Author.Tests.{eqb-true, eqb-false}
use Rattle.slicing.specs.Devices.{Device, device, present as isPresent, insert, delete, update, Within, Rising}
use Rattle.slicing.specs.Runs.{Run, ◌of◌, owned, relabel}
use Rattle.slicing.specs.ShareRule.{shares}
use Rattle.slicing.specs.Validity.{Valid}
use Rattle.slicing.proofs.Runs.{relabel_relabel, relabel_same}
use Rattle.slicing_core.specs.Rows.{at, rows, device_rows}
use Rattle.slicing_core.specs.Stages.{Below, Ascending, Position, Inserted, Deleted}
use Rattle.slicing_core.proofs.DeviceRows.{ascending_rising, below_rising}
use Rattle.packed_runs.specs.Words.{runs, present, Labelled}
use Rattle.plans.specs.Labels.{raised, lowered}
use Rattle.opened.specs.OpenPools.{devices_in, state_with, state_in, Open}
use Rattle.plans.specs.Plans.{state_by, Merged}
use Rattle.opened.specs.declared.Opened.{Opened}
use Rattle.plans.specs.declared.Rows.{Rows}
use Rattle.calls.proofs.NextDevices.{Next, open_few, open_ascending, next_add, next_remove, next_resize}
use Rattle.calls.proofs.RaisedRows.{Raised, Lowered, raised_cases, raised_below, lowered_cases, raised_lowered, inserted_raised, deleted_lowered}
use Rattle.calls.proofs.RaisedRows.{owned_raised, owned_raised_in}
use Rattle.opened.proofs.RowNames.{relabel_runs, relabel_rows, label_at}

-- ---- rows

-- the rows behind one that came in
rows_up : (s l s' l' : List ℕ) (i n : ℕ) → ((k : ℕ) → i ≤ k → k < i + n → at s' (k + 1) ≡ at s k) → ((k : ℕ) → i ≤ k → k < i + n → at l' (k + 1) ≡ at l k)
    → rows s' l' (suc i) n ≡ rows s l i n
rows_up s l s' l' i zero f g = refl
rows_up s l s' l' i (suc n) f g =
    let a : at s' (suc i) ≡ at s i = rw (← add-one i) (f i (omega arith) (omega arith)) in
    let b : at l' (suc i) ≡ at l i = rw (← add-one i) (g i (omega arith) (omega arith)) in
    rw (a, b, rows_up s l s' l' (suc i) n (λ k m h. f k (omega arith) (omega arith)) (λ k m h. g k (omega arith) (omega arith)))

present_run : (n x : ℕ) (rs ss : List (Run ℕ)) → present rs ≡ present ss → present ((n of x) ∷ rs) ≡ present ((n of x) ∷ ss)
present_run zero x rs ss e = e
present_run (suc n) x rs ss e = ap (λ r. (suc n of x) ∷ r) e

-- a row of no points at p, among n rows of s and l
module _ {s l s' l' : List ℕ} {p n : ℕ} (h : p ≤ n) (x : Inserted s n p 0 s') (y : Deleted l' (n + 1) p l) where
  present_here : (m : ℕ) → p + m ≡ n → present (rows s' l' p (suc m)) ≡ present (rows s l p m)
  present_here m e =
      rw x.here
      (ap present (rows_up s l s' l' p m (λ k a c. x.after k a (omega arith)) (λ k a c. sym (y.after k a (omega arith)))))

  present_from : (i m : ℕ) → i + m ≡ n → i ≤ p → present (rows s' l' i (suc m)) ≡ present (rows s l i m)
  present_from i zero e k = let z : i ≡ p = omega arith in rw z (present_here zero (omega arith))
  present_from i (suc m) e k = go (eq-or-lt_of_le k) (present_from (suc i) m (omega arith))
    where
      go : (i ≡ p) ⊎ (i < p) → (suc i ≤ p → present (rows s' l' (suc i) (suc m)) ≡ present (rows s l (suc i) m))
          → present (rows s' l' i (suc (suc m))) ≡ present (rows s l i (suc m))
      go (inl z) ih = rw z (present_here (suc m) (omega arith))
      go (inr z) ih =
          rw (x.before i z, y.before i z)
          (present_run (at s i) (at l' i) (rows s' l' (suc i) (suc m)) (rows s l (suc i) m) (ih z))

  present_inserted : present (rows s' l' 0 (n + 1)) ≡ present (rows s l 0 n)
  present_inserted = rw (add-one n) (present_from 0 n (omega arith) (omega arith))

-- ---- the devices afterwards

abbrev pub Shared : Opened → ℕ → List ℕ → List ℕ → Opened → Type 0
Shared o n d c e =
    ((e.range ≡ o.range) × (e.limit ≡ o.limit) × (e.devices ≡ n) × (e.ids ≡ d) × (e.capacities ≡ c))
    × ((rows e.has d 0 n ≡ shares o.range (device_rows d c 0 n)) × (length e.has ≡ 256))

-- ---- the rows, and the state that they stand for

record Rowed (o : Opened) (table : List ℕ) (rs : Rows) (work : List ℕ) : Type 0 where
  named : relabel (at rs.names) (runs work 0 o.intervals) ≡ relabel (at o.ids) (runs table 0 o.intervals)
  few : rs.count ≤ 256
  ascending : Ascending rs.names rs.count
  known : Below 65536 rs.names rs.count
  labels : Labelled rs.count work o.intervals
  held : (i : ℕ) → i < rs.count → at rs.has i ≡ owned i (runs work 0 o.intervals)

record Leaving (e : Opened) (rs : Rows) : Type 0 where
  left : (x : ℕ) → x < rs.count → (x ≡ rs.gone → ⊥)
      → (lowered rs.gone x < e.devices) × (at e.ids (lowered rs.gone x) ≡ at rs.names x)
  gone : rs.gone < rs.count → at rs.due rs.gone ≡ 0
  due : present (rows rs.due rs.names 0 rs.count) ≡ present (rows e.has e.ids 0 e.devices)

pub record Prepared (o : Opened) (table : List ℕ) (e : Opened) (rs : Rows) (work : List ℕ) (es : List Device) : Type 0 where
  pub merged : Merged o e rs work
  pub state : state_by o rs work ≡ state_in o table
  pub devices : devices_in e ≡ es

module _ {o : Opened} {table : List ℕ} (a : Open o table) (had : 1 ≤ o.devices) where
  prepared : {es : List Device} {d c work : List ℕ} {n : ℕ} (e : Opened) {rs : Rows} → Next es d c n → Shared o n d c e → Rowed o table rs work → Leaving e rs
      → Prepared o table e rs work es
  prepared {es} {d} {c} {work} {n} e {rs} x s w l = record {
    merged = record {
      valid = subst Valid (sym same) a.valid;
      had = had;
      few = w.few;
      ascending = w.ascending;
      known = w.known;
      labels = w.labels;
      held = w.held;
      range = s.0.0;
      limit = s.0.1;
      some = omega (arith, s.0.2, x.some);
      few_after = omega (arith, s.0.2, x.most);
      rising = subst (Rising 0) (sym after) x.rising;
      shared = given;
      left = l.left;
      gone = l.gone;
      due = ap present (relabel_rows rs.due rs.names 0 rs.count) ∙ l.due ∙ ap present given;
      ids_size = ap length s.0.3 ∙ x.ids_size;
      capacities_size = ap length s.0.4 ∙ x.capacities_size;
      shares_size = s.1.1;
    };
    state = same;
    devices = after ∙ x.rows;
  }
    where
      same : state_by o rs work ≡ state_in o table
      same = ap (state_with o) w.named

      after : devices_in e ≡ device_rows d c 0 n
      after = rw (s.0.2, s.0.3, s.0.4)

      given : rows e.has e.ids 0 e.devices ≡ shares e.range (devices_in e)
      given = rw (s.0.0, s.0.2, s.0.3, s.0.4) s.1.0

  -- every row stays: their names and what each is to have are those afterwards
  kept : {d c : List ℕ} (has : List ℕ) {n : ℕ} (e : Opened) → n ≤ 256 → Shared o n d c e
      → Leaving e (record { count = n; gone = 256; names = d; has = has; due = e.has })
  kept {d} {c} has {n} e m s = record {
    left = λ x h k. stays x h (lowered_cases 256 x);
    gone = λ h. absurd (omega arith);
    due = rw (s.0.2, s.0.3);
  }
    where
      stays : (x : ℕ) → x < n → Lowered 256 x
          → (lowered 256 x < e.devices) × (at e.ids (lowered 256 x) ≡ at d x)
      stays x h (inl k) = absurd (omega arith)
      stays x h (inr k) = (omega (arith, k.1, s.0.2), rw (k.1, s.0.3))

  -- the rows of the pool itself, and what each is to have
  module _ (work : List ℕ) (gone : ℕ) (due : List ℕ) (w : runs work 0 o.intervals ≡ relabel (raised 256) (runs table 0 o.intervals)) where
    same_runs : runs work 0 o.intervals ≡ runs table 0 o.intervals
    same_runs =
        w
        ∙ relabel_runs (raised 256) (λ x. x) table 0 o.intervals
        (λ j h k. raised_below 256 (at table j % 65536) (omega (arith, open_few a, a.labels j (omega arith))))
        ∙ relabel_same (runs table 0 o.intervals)

    same_label : (j : ℕ) → j < o.intervals → at work j % 65536 ≡ at table j % 65536
    same_label j h =
        label_at (λ x. x) work table 0 o.intervals (same_runs ∙ sym (relabel_same (runs table 0 o.intervals))) j (omega arith) (omega arith)

    same_rows : Rowed o table (record { count = o.devices; gone = gone; names = o.ids; has = o.has; due = due }) work
    same_rows = record {
      named = ap (relabel (at o.ids)) same_runs;
      few = open_few a;
      ascending = open_ascending a;
      known = below_rising o.ids o.capacities o.devices a.valid.rising;
      labels = λ j h. omega (arith, a.labels j h, same_label j h);
      held = λ i h. a.held i h ∙ ap (owned i) (sym same_runs);
    }

  -- ---- add

  module _ {id capacity row : ℕ} {d c has : List ℕ} (work : List ℕ) (e : Opened) (within : Within 0 (device id capacity)) (room : o.devices < 256)
      (q : Position o.ids o.devices id row) (absent : isPresent id (devices_in o) ≡ false) (x : Inserted o.ids o.devices row id d)
      (y : Inserted o.capacities o.devices row capacity c) (z : Inserted o.has o.devices row 0 has) (s : Shared o (o.devices + 1) d c e)
      (w : runs work 0 o.intervals ≡ relabel (raised row) (runs table 0 o.intervals)) where
    next : Next (insert id capacity (devices_in o)) d c (o.devices + 1)
    next = next_add a within room q absent x y

    raised_rows : Rowed o table (record { count = o.devices + 1; gone = 256; names = d; has = has; due = e.has }) work
    raised_rows = record {
      named = ap (relabel (at d)) w ∙ relabel_relabel (raised row) (at d) (runs table 0 o.intervals)
          ∙ relabel_runs (λ i. at d (raised row i)) (at o.ids) table 0 o.intervals
          (λ j h k. inserted_raised x (at table j % 65536) (a.labels j (omega arith)));
      few = omega arith;
      ascending = ascending_rising d c (o.devices + 1) next.rising;
      known = below_rising d c (o.devices + 1) next.rising;
      labels = λ j h.
          fits (at table j % 65536) (a.labels j h) (label_at (raised row) work table 0 o.intervals w j (omega arith) (omega arith))
          (raised_cases row (at table j % 65536));
      held = λ i h. gives i h (eqb i row) refl;
    }
      where
        fits : {l : ℕ} (k : ℕ) → k < o.devices → l ≡ raised row k → Raised row k → l < o.devices + 1
        fits k h m (inl u) = omega arith
        fits k h m (inr u) = omega arith

        old : (i j : ℕ) → j < o.devices → raised row j ≡ i → at has i ≡ owned i (runs work 0 o.intervals)
        old i j h m =
            rw (← m)
            (inserted_raised z j h ∙ a.held j h ∙ sym (owned_raised row (runs table 0 o.intervals) j) ∙ ap (owned (raised row j)) (sym w))

        lower : (i : ℕ) → i < o.devices + 1 → (i ≡ row → ⊥) → Lowered row i → lowered row i < o.devices
        lower i h n (inl k) = omega arith
        lower i h n (inr k) = omega (arith, n, q.most)

        gives : (i : ℕ) → i < o.devices + 1 → (t : Bool) → eqb i row ≡ t → at has i ≡ owned i (runs work 0 o.intervals)
        gives i h true k = rw (eqb-true i row k) (z.here ∙ sym (owned_raised_in row (runs table 0 o.intervals)) ∙ ap (owned row) (sym w))
        gives i h false k =
            let n : i ≡ row → ⊥ = eqb-false i row k in
            old i (lowered row i) (lower i h n (lowered_cases row i)) (raised_lowered row i n)

    pub prepared_add : Prepared o table e (record { count = o.devices + 1; gone = 256; names = d; has = has; due = e.has }) work
        (insert id capacity (devices_in o))
    prepared_add = prepared e next s raised_rows (kept has e (omega arith) s)

  -- ---- remove

  module _ {id row : ℕ} {d c due : List ℕ} (work : List ℕ) (e : Opened) (more : 1 < o.devices) (found : (row < o.devices) × (at o.ids row ≡ id))
      (x : Deleted o.ids o.devices row d) (y : Deleted o.capacities o.devices row c) (s : Shared o (o.devices - 1) d c e)
      (z : Inserted e.has (o.devices - 1) row 0 due)
      (w : runs work 0 o.intervals ≡ relabel (raised 256) (runs table 0 o.intervals)) where
    less : Leaving e (record { count = o.devices; gone = row; names = o.ids; has = o.has; due = due })
    less = record {
      left = λ i h n. (
        fewer i h n (lowered_cases row i),
        rw s.0.3 (deleted_lowered x i n h),
      );
      gone = λ h. z.here;
      due = rw (s.0.2, s.0.3) (rw k at (present_inserted {l = d} {l' = o.ids} {n = o.devices - 1} (omega (arith, found.0)) z (rw k x)));
    }
      where
        k : o.devices - 1 + 1 ≡ o.devices
        k = omega arith

        fewer : (i : ℕ) → i < o.devices → (i ≡ row → ⊥) → Lowered row i → lowered row i < e.devices
        fewer i h n (inl m) = omega (arith, s.0.2)
        fewer i h n (inr m) = omega (arith, s.0.2, n, found.0)

    pub prepared_remove : Prepared o table e (record { count = o.devices; gone = row; names = o.ids; has = o.has; due = due }) work
        (delete id (devices_in o))
    prepared_remove = prepared e (next_remove a more found x y) s (same_rows work row due w) less

  -- ---- resize

  pub prepared_resize : {id capacity row : ℕ} (work : List ℕ) (e : Opened) → Within 0 (device id capacity) → (row < o.devices) × (at o.ids row ≡ id)
      → Shared o o.devices o.ids (set o.capacities row capacity) e → runs work 0 o.intervals ≡ relabel (raised 256) (runs table 0 o.intervals)
      → Prepared o table e (record { count = o.devices; gone = 256; names = o.ids; has = o.has; due = e.has }) work (update id capacity (devices_in o))
  prepared_resize work e within found s w = prepared e (next_resize a within found) s (same_rows work 256 e.has w) (kept o.has e (open_few a) s)
