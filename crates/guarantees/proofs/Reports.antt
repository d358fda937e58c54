-- How even a pool is (Wish 2), on what the calls answer: the outcomes of `valid_pools::report` and `gorvyts_report`, and the three claims.
--
--   row_report p i       the report on the device at row i of the pool p
--   sum_of_rows f i n     the sum of f over n rows from i on
-- report: report_invalid (2), report_outside (2), report_absent (5), report_row, report_accepted (the device at a row); report_division (whole number and
--   remainder are R × c divided by C)
-- the claims: even_zero, even_sum, even_between
-- pools: three_equal_lem (K5's), exactly_due (a remainder of 0 with a difference)
-- gorvyts_report: told_few_places (17), told_unreadable (14, 15, 16), told_outside (2), told_absent (5), told_present, told_row (the device at a
--   row of the image); the claims: told_zero, told_sum, told_between
use mathlib.Core.Path.{◌≡◌, refl, ap, ◌∙◌, subst}
use mathlib.Core.Bool.{true, false}
use mathlib.Core.List.{List, ◌∷◌, Memᴰ}
use Prim.Native.Nat.{ℕ, zero, suc, ◌+◌, ◌*◌, ◌/◌, ◌%◌, ◌≤◌, ◌<◌}
use native.Mathlib.Nat.{div-add-mod', mod-lt}
use native.Mathlib.Omega.{arith}
use lib.IntN.{ℤ, pos, negsuc, neg_ℤ, ◌+ℤ◌, ◌-ℤ◌}
use lib.ListN.{length, drop}
use lib.Signed.{◌<ℤ◌}
use Rattle.slicing.specs.Devices.{Device, device, capacities, present, capacity_of, Rising}
use Rattle.slicing.specs.Reports.{Report, report_of, report, differences}
use Rattle.slicing.specs.ShareRule.{share_of}
use Rattle.slicing.proofs.Cases.{many, three_devices, report_three, report_reverse}
use Rattle.slicing.proofs.Devices.{rising_some, capacity_of_member}
use Rattle.slicing.proofs.Reports.{report_only, reports_sum, report_between}
use Rattle.slicing_core.specs.Rows.{at, device_rows}
use Rattle.slicing_core.proofs.DeviceRows.{position_present, capacity_of_row, ascending_rising, within_rising}
use Rattle.slicing_core.proofs.Rows.{length_device_rows}
use Rattle.pools.specs.Pools.{state_of, ValidPool}
use Rattle.pools.specs.declared.Pool.{Pool}
use Rattle.std.specs.Prelude.{Result, Ok, Err}
use Rattle.refusals.specs.Replies.{number}
use Rattle.refusals.specs.declared.Refusal as Refusals
use Rattle.refusals.specs.declared.Refusal.TheVariants.{Outside, Absent}
use Rattle.valid_pools.specs.Promises.{told, report_reply, Reported}
use Rattle.valid_pools.specs.declared.DeviceReport.{DeviceReport}
use Rattle.image_numbers.specs.Format.{range_in, devices_in, ids_in, capacities_in, state_in, Image}
use Rattle.image_rows.specs.Promises as Rows
use Rattle.image_rows.specs.Promises.{ReportLeft, report_told}
use Rattle.demand3.specs.Points.{Listed}
use Rattle.guarantees.proofs.Conditions.{Inside, inside_false, inside_true, unlisted_absent, length_devices}
use Rattle.guarantees.proofs.Exports.{Unreadable, unread, read}

-- C
abbrev pub sum_of_capacities : Pool → ℕ
sum_of_capacities p = capacities (state_of p).devices

-- the report on the device at row i: R × c / C as a whole number, its remainder, share × C − R × c
abbrev pub row_report : Pool → ℕ → Report
row_report p i = record {
  number = 0;
  whole = p.range * at p.capacities i / sum_of_capacities p;
  remainder = p.range * at p.capacities i % sum_of_capacities p;
  difference = pos (share_of p.range (state_of p).devices (at p.ids i) * sum_of_capacities p) -ℤ pos (p.range * at p.capacities i);
}

-- the answer to a call for a report
abbrev pub Answer : Type 0
Answer = Result DeviceReport Refusals.Refusal

-- a refusal: its number, and zeros
abbrev pub Refusal : Refusals.Refusal → Answer → Type 0
Refusal e r = (r ≡ Err e) × (report_reply r ≡ record { number = number e; whole = 0; remainder = 0; difference = pos 0 })

module _ (p : Pool) (id : ℕ) (r : Answer) (k : Reported p id r) where
  -- a pool that is not valid
  pub report_invalid : (ValidPool p → ⊥) → Refusal Outside r
  report_invalid h = (k.invalid h, k.invalid_reply h)

  module _ (v : ValidPool p) where
    -- an id outside 1 to 65,535
    pub report_outside : (Inside 65535 id → ⊥) → Refusal Outside r
    report_outside h = let e = inside_true 65535 id h in (k.valid v ∙ rw e, k.reply v ∙ rw e)

    -- an id that the pool does not list
    pub report_absent : Inside 65535 id → (Listed p id → ⊥) → Refusal Absent r
    report_absent i h =
        let e = inside_false 65535 id i in
        let f = unlisted_absent p id h in
        (k.valid v ∙ rw (e, f), k.reply v ∙ rw (e, f))

-- ---- the device at a row of two arrays, as a pool value and an image have them

module _ (d c : List ℕ) (n : ℕ) (rising : Rising 0 (device_rows d c 0 n)) (i : ℕ) (l : i < n) where
  -- its capacity by its id
  same_capacity : capacity_of (device_rows d c 0 n) (at d i) ≡ at c i
  same_capacity = capacity_of_row d c n i l (ascending_rising d c n rising)

  here : present (at d i) (device_rows d c 0 n) ≡ true
  here = position_present d c n (at d i) i l refl

  member : Memᴰ (device (at d i) (at c i)) (device_rows d c 0 n)
  member = rw (← same_capacity) (capacity_of_member (at d i) (device_rows d c 0 n) here)

  row_report_lem : (R : ℕ) → report R (device_rows d c 0 n) (at d i) ≡ report_of R (device_rows d c 0 n) (device (at d i) (at c i))
  row_report_lem R =
      let w = within_rising d c n rising i l in
      rw (inside_false 65535 (at d i) (w.above, w.known), here, same_capacity)

-- ---- the device at a row of a pool

module _ (p : Pool) (v : ValidPool p) (i : ℕ) (l : i < p.devices) (r : Answer) (k : Reported p (at p.ids i) r) where
  abbrev this : Device
  this = device (at p.ids i) (at p.capacities i)

  listed : Memᴰ this (state_of p).devices
  unfolding state_of
  listed = member p.ids p.capacities p.devices v.valid.rising i l

  pub report_row : report_reply r ≡ row_report p i
  unfolding state_of
  report_row = k.reply v ∙ row_report_lem p.ids p.capacities p.devices v.valid.rising i l p.range

  -- it is not refused, and has these numbers
  pub report_accepted : r ≡ Ok (told (row_report p i))
  unfolding state_of
  report_accepted =
      let w = within_rising p.ids p.capacities p.devices v.valid.rising i l in
      k.valid v
      ∙ rw (
        inside_false 65535 (at p.ids i) (w.above, w.known),
        here p.ids p.capacities p.devices v.valid.rising i l,
        same_capacity p.ids p.capacities p.devices v.valid.rising i l,
      )

  -- the numbers of the report
  abbrev pub numbers : Report
  numbers = report_reply r

  pub report_division : (numbers.whole * sum_of_capacities p + numbers.remainder ≡ p.range * at p.capacities i) × (numbers.remainder < sum_of_capacities p)
  report_division = rw report_row (
    div-add-mod' (p.range * at p.capacities i) (sum_of_capacities p),
    mod-lt (p.range * at p.capacities i) (rising_some 0 (state_of p).devices v.valid.rising listed),
  )

  -- 'a difference of 0 still means a remainder of 0, but not the reverse': below, exactly_due
  pub even_zero : numbers.difference ≡ pos 0 → numbers.remainder ≡ 0
  unfolding state_of
  even_zero = rw report_row (report_only p.range (state_of p).devices this)

  -- 'each lies strictly between −C and' n × C
  pub even_between : (neg_ℤ (pos (sum_of_capacities p)) <ℤ numbers.difference) × (numbers.difference <ℤ pos (p.devices * sum_of_capacities p))
  unfolding state_of
  even_between =
      let b = report_between p.range (state_of p).devices v.valid.rising this listed in
      rw report_row (b.above, subst (λ n. (report_of p.range (state_of p).devices this).difference <ℤ pos (n * sum_of_capacities p)) (length_devices p) b.below)

-- ---- all devices

abbrev pub sum_of_rows : (ℕ → ℤ) → ℕ → ℕ → ℤ
sum_of_rows f i zero = pos 0
sum_of_rows f i (suc n) = f i +ℤ sum_of_rows f (suc i) n

rows_differences : (R : ℕ) (ds : List Device) (d c : List ℕ) (f : ℕ → ℤ) (i n : ℕ)
    → ((j : ℕ) → i ≤ j → j < i + n → f j ≡ (report_of R ds (device (at d j) (at c j))).difference) → sum_of_rows f i n ≡ differences R ds (device_rows d c i n)
rows_differences R ds d c f i zero h = refl
rows_differences R ds d c f i (suc n) h =
    rw (h i (omega arith) (omega arith), rows_differences R ds d c f (suc i) n (λ j l m. h j (omega arith) (omega arith)))

rows_sum : (R : ℕ) (d c : List ℕ) (n : ℕ) → Rising 0 (device_rows d c 0 n) → 1 ≤ n → (f : ℕ → ℤ)
    → ((j : ℕ) → j < n → f j ≡ (report_of R (device_rows d c 0 n) (device (at d j) (at c j))).difference) → sum_of_rows f 0 n ≡ pos 0
rows_sum R d c n rising some f h =
    rows_differences R (device_rows d c 0 n) d c f 0 n (λ j a b. h j (omega arith))
    ∙ reports_sum R (device_rows d c 0 n) rising (omega (arith, length_device_rows d c 0 n))

-- 'The differences of all disks add up to 0'
pub even_sum : (p : Pool) → ValidPool p → 1 ≤ p.devices → (answer : ℕ → Answer)
    → ((i : ℕ) → i < p.devices → Reported p (at p.ids i) (answer i)) → sum_of_rows (λ i. (report_reply (answer i)).difference) 0 p.devices ≡ pos 0
unfolding state_of
even_sum p v some answer k =
    rows_sum p.range p.ids p.capacities p.devices v.valid.rising some (λ i. (report_reply (answer i)).difference)
    (λ i l. ap (λ (u : Report). u.difference) (report_row p v i l (answer i) (k i l)))

-- ---- K5's pool: R = 100, three disks of 1.000 TB with shares 34, 33, 33

abbrev due : ℤ → Report
due x = record { number = 0; whole = 33; remainder = 1000; difference = x }

pub three_equal_lem : (p : Pool) → ValidPool p → (state_of p).range ≡ 100 → (state_of p).devices ≡ three_devices
    → (r s t : Answer) → Reported p 1 r → Reported p 2 s → Reported p 3 t → (report_reply r ≡ due (pos 2000)) × (report_reply s ≡ due (negsuc 999)) × (report_reply t ≡ due (negsuc 999))
three_equal_lem p v e f r s t k l m =
    let a = report_three in (
      k.reply v ∙ rw (e, f) a.0,
      l.reply v ∙ rw (e, f) a.1,
      m.reply v ∙ rw (e, f) a.2,
    )

-- ---- R = 4, a disk of 5 thousandths of a TB and five of 1: it is due 2 points exactly, and has all 4

pub exactly_due : (p : Pool) → ValidPool p → (state_of p).range ≡ 4 → (state_of p).devices ≡ device 1 5 ∷ many 5 2 → (r : Answer) → Reported p 1 r
    → report_reply r ≡ record { number = 0; whole = 2; remainder = 0; difference = pos 20 }
exactly_due p v e f r k = k.reply v ∙ rw (e, f) report_reverse

-- ---- gorvyts_report

-- the number, the first two places and the difference; the other places stay
abbrev pub Left : ℕ → ℕ → ℕ → ℤ → List ℕ → ReportLeft → Type 0
Left n w m x a r = r ≡ record { number = n; places = w ∷ m ∷ drop 2 a; difference = x }

module _ (xs : List ℕ) (d : ℕ) (a : List ℕ) (x : ℤ) (r : ReportLeft) (k : Rows.Reported xs d a x r) where
  pub told_few_places : length a < 2 → r ≡ record { number = 17; places = a; difference = x }
  told_few_places h = k.short h

  module _ (l : 2 ≤ length a) where
    pub told_unreadable : (n : ℕ) → Unreadable xs n → Left n 0 0 (pos 0) a r
    told_unreadable n h = unread (k.room l) h

    module _ (i : Image xs) where
      pub told_outside : (Inside 65535 d → ⊥) → Left 2 0 0 (pos 0) a r
      told_outside h = read (k.room l) i ∙ rw (inside_true 65535 d h)

      module _ (j : Inside 65535 d) where
        pub told_absent : present d (state_in xs).devices ≡ false → Left 5 0 0 (pos 0) a r
        told_absent h = read (k.room l) i ∙ rw (inside_false 65535 d j, h)

        -- R and C of the image, and the capacity of its device d
        pub told_present : present d (state_in xs).devices ≡ true
            → let R = (state_in xs).range in let C = capacities (state_in xs).devices in let c = capacity_of (state_in xs).devices d in
            Left 0 (R * c / C) (R * c % C) (pos (share_of R (state_in xs).devices d * C) -ℤ pos (R * c)) a r
        told_present h = read (k.room l) i ∙ rw (inside_false 65535 d j, h)

-- the device at a row of the image
module _ (xs : List ℕ) (i : Image xs) (j : ℕ) (l : j < devices_in xs) (a : List ℕ) (m : 2 ≤ length a) (x : ℤ) (r : ReportLeft)
    (k : Rows.Reported xs (at (ids_in xs) j) a x r) where
  abbrev that : Device
  that = device (at (ids_in xs) j) (at (capacities_in xs) j)

  listed_in : Memᴰ that (state_in xs).devices
  unfolding state_in
  listed_in = member (ids_in xs) (capacities_in xs) (devices_in xs) i.sound.valid.rising j l

  pub told_row : r ≡ report_told a (report_of (range_in xs) (state_in xs).devices that)
  unfolding state_in
  told_row =
      read (k.room m) i
      ∙ ap (report_told a) (row_report_lem (ids_in xs) (capacities_in xs) (devices_in xs) i.sound.valid.rising j l (range_in xs))

  -- the remainder is in the second place
  pub told_zero : r.difference ≡ pos 0 → at r.places 1 ≡ 0
  told_zero = rw told_row (report_only (range_in xs) (state_in xs).devices that)

  pub told_between : let C = capacities (state_in xs).devices in (neg_ℤ (pos C) <ℤ r.difference) × (r.difference <ℤ pos (devices_in xs * C))
  unfolding state_in
  told_between =
      let b = report_between (range_in xs) (state_in xs).devices i.sound.valid.rising that listed_in in
      rw told_row
      (b.above, subst (λ n. (report_of (range_in xs) (state_in xs).devices that).difference <ℤ pos (n * capacities (state_in xs).devices)) (length_device_rows (ids_in xs) (capacities_in xs) 0 (devices_in xs)) b.below)

pub told_sum : (xs : List ℕ) → Image xs → 1 ≤ devices_in xs → (a : ℕ → List ℕ) (x : ℕ → ℤ) (answer : ℕ → ReportLeft)
    → ((j : ℕ) → j < devices_in xs → (2 ≤ length (a j)) × Rows.Reported xs (at (ids_in xs) j) (a j) (x j) (answer j))
    → sum_of_rows (λ j. (answer j).difference) 0 (devices_in xs) ≡ pos 0
unfolding state_in
told_sum xs i some a x answer k =
    rows_sum (range_in xs) (ids_in xs) (capacities_in xs) (devices_in xs) i.sound.valid.rising some (λ j. (answer j).difference)
    (λ j l. ap (λ (r : ReportLeft). r.difference) (told_row xs i j l (a j) (k j l).0 (x j) (answer j) (k j l).1))
