-- How even a pool is: what each device is exactly due, and how far its share lies from that. Renders document 02, Wish 2, with the bounds of
-- Wish 4. R is the range, ds are the devices, C is the sum of their capacities.
--
--   difference_by rule R ds e   share × C − R × c of the device e, where the shares are those of the rule
--   Report                     a refusal number or 0, the due as a whole number, its remainder, the difference
--   report_of_by rule R ds e     the report of the device e
--   no_report n                 the answer of a refused call: its number n and zeros
--   report_by rule R ds d       the answer for the id d
--   difference, report_of, report    the same under the share rule in force
--
-- What is true of them under the rule in force (proofs/Reports.antt):
--   differences R ds es        the sum of the differences of the devices es
--   Between C n x              x lies strictly between −C and n × C
use Rattle.std.specs.Prelude.{cond, List, [], ◌∷◌, ℕ, ◌*◌, ℤ, pos, neg_ℤ, ◌+ℤ◌, ◌-ℤ◌, ◌<ℤ◌}
use Rattle.slicing.specs.Devices.{Device, device, capacities, present, capacity_of}
use Rattle.slicing.specs.Dues.{floor, remainder}
use Rattle.slicing.specs.Limits.{max_id, outside}
use Rattle.slicing.specs.Runs.{owned}
use Rattle.slicing.specs.ShareRule.{Rule, shares}

-- 'the signed difference share × C − R × c'
abbrev pub difference_by : Rule → ℕ → List Device → Device → ℤ
difference_by rule R ds e = pos (owned e.id (rule R ds) * capacities ds) -ℤ pos (R * e.capacity)

pub record Report : Type 0 where
  pub number : ℕ
  pub whole : ℕ
  pub remainder : ℕ
  pub difference : ℤ

-- 'the report gives R × c divided by C as a whole number, the remainder, and the signed difference'
abbrev pub report_of_by : Rule → ℕ → List Device → Device → Report
report_of_by rule R ds e = record {
  number = 0;
  whole = floor R (capacities ds) e;
  remainder = remainder R (capacities ds) e;
  difference = difference_by rule R ds e;
}

-- 'Each returns its number and zeros.' (document 01)
abbrev pub no_report : ℕ → Report
no_report n = record { number = n; whole = 0; remainder = 0; difference = pos 0 }

-- 2 for an id outside its limits; 'An absent id gets 5.'
abbrev pub report_by : Rule → ℕ → List Device → ℕ → Report
report_by rule R ds d =
    cond (outside max_id d) (no_report 2) (cond (present d ds) (report_of_by rule R ds (device d (capacity_of ds d))) (no_report 5))

-- ---- under the rule in force

abbrev pub difference : ℕ → List Device → Device → ℤ
difference R ds e = difference_by shares R ds e

abbrev pub report_of : ℕ → List Device → Device → Report
report_of R ds e = report_of_by shares R ds e

abbrev pub report : ℕ → List Device → ℕ → Report
report R ds d = report_by shares R ds d

-- ---- how even

-- 'The differences of all disks add up to 0'
abbrev pub differences : ℕ → List Device → List Device → ℤ
differences R ds [] = pos 0
differences R ds (e ∷ es) = (report_of R ds e).difference +ℤ differences R ds es

-- 'and each lies strictly between −C and C'; 'the upper end becomes n × C for n devices' (Wish 4)
pub record Between (C n : ℕ) (x : ℤ) : Type 0 where
  pub above : neg_ℤ (pos C) <ℤ x
  pub below : x <ℤ pos (n * C)
