-- How even a pool is: document 02, Wishes 2 and 4.
--
-- of every share rule: report_only (a difference is 0 only where the remainder is 0), reports_sum (the differences of all devices add up to 0)
-- of the rule in force, by share_of_above and share_of_below of proofs/ShareRule.antt: report_between (each lies strictly between −C and n × C),
--   report_sizes (the two numbers whose difference it is are far inside 64 bits with a sign)
use mathlib.Core.Path.{◌≡◌, sym, ap, ◌∙◌}
use mathlib.Core.List.{List, [], ◌∷◌, Memᴰ}
use Prim.Native.Nat.{ℕ, ◌+◌, ◌*◌, ◌%◌, ◌≤◌}
use native.Mathlib.Nat.{mul-mod_left, mul-le-mul}
use native.Mathlib.Omega.{arith}
use lib.IntN.{pos, ◌+ℤ◌, ◌-ℤ◌}
use lib.ListN.{length}
use Rattle.slicing.specs.Devices.{Device, ids, capacities, Rising}
use Rattle.slicing.specs.Limits.{max_range, max_devices}
use Rattle.slicing.specs.Reports.{difference, report_of, differences, Between}
use Rattle.slicing.specs.ShareRule.{shares, share_of}
use Rattle.slicing.proofs.Counting.{sum_of}
use Rattle.slicing.proofs.Devices.{rising_distinct, rising_most}
use Rattle.slicing.proofs.Differences.{minus_same, minus_zero, minus_plus, minus_above, minus_below}
use Rattle.slicing.proofs.Limits.{product_size, sum_size}
use Rattle.slicing.proofs.Runs.{sum_owned}
use Rattle.slicing.proofs.ShareRule.{total_shares, share_of_absent, share_of_above, share_of_below}

-- ---- of every share rule

pub report_only : (R : ℕ) (ds : List Device) (e : Device) → (report_of R ds e).difference ≡ pos 0 → (report_of R ds e).remainder ≡ 0
report_only R ds e z =
    ap (λ x. x % capacities ds) (sym (minus_zero (share_of R ds e.id * capacities ds) (R * e.capacity) z))
    ∙ mul-mod_left (share_of R ds e.id) (capacities ds)

-- the differences of some of the devices
differences_minus : (R : ℕ) (ds es : List Device)
    → differences R ds es ≡ pos (sum_of (share_of R ds) (ids es) * capacities ds) -ℤ pos (R * capacities es)
differences_minus R ds [] = sym (minus_same (0 * capacities ds) (R * 0) (omega arith))
differences_minus R ds (e ∷ es) =
    let s : ℕ = share_of R ds e.id in
    let t : ℕ = sum_of (share_of R ds) (ids es) in
    let left : s * capacities ds + t * capacities ds ≡ (s + t) * capacities ds = omega arith in
    let right : R * e.capacity + R * capacities es ≡ R * (e.capacity + capacities es) = omega arith in
    ap (λ x. difference R ds e +ℤ x) (differences_minus R ds es)
    ∙ minus_plus (s * capacities ds) (R * e.capacity) (t * capacities ds) (R * capacities es)
    ∙ ap (λ x. pos x -ℤ pos (R * e.capacity + R * capacities es)) left
    ∙ ap (λ x. pos ((s + t) * capacities ds) -ℤ pos x) right

pub reports_sum : (R : ℕ) (ds : List Device) → Rising 0 ds → 1 ≤ length ds → differences R ds ds ≡ pos 0
reports_sum R ds h l =
    differences_minus R ds ds ∙ minus_same (sum_of (share_of R ds) (ids ds) * capacities ds) (R * capacities ds) (ap (λ x. x * capacities ds) all)
  where
    all : sum_of (share_of R ds) (ids ds) ≡ R
    all = sum_owned (ids ds) (shares R ds) (rising_distinct 0 ds h) (λ d z. share_of_absent R ds d z) ∙ total_shares R ds h l

-- ---- of the rule in force

module _ (R : ℕ) (ds : List Device) (h : Rising 0 ds) (e : Device) (m : Memᴰ e ds) where
  pub report_between : Between (capacities ds) (length ds) (report_of R ds e).difference
  report_between = record {
    above = minus_above (share_of R ds e.id * capacities ds) (R * e.capacity) (capacities ds) (omega (arith, share_of_above R ds h e m));
    below = minus_below (share_of R ds e.id * capacities ds) (R * e.capacity) _ (omega (arith, share_of_below R ds h e m));
  }

  pub report_sizes : R ≤ max_range → length ds ≤ max_devices
      → (R * e.capacity ≤ 68719476736000000) × (share_of R ds e.id * capacities ds ≤ 68719476736000000 + 256 * 4096000000)
  report_sizes l k =
      let due = product_size l (rising_most 0 ds h m) in
      (due, omega (arith, due, mul-le-mul k (sum_size ds h k), share_of_below R ds h e m))
