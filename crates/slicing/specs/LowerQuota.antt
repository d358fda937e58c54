-- Shares by greatest divisors, to be computed: each device starts at its lower quota, and the points left over go one by one. That these are
-- the shares of specs/GreatestDivisors.antt is the law lower_quota_greatest_divisors. R is the range, C the sum of the capacities.
--
--   start R C ds       each device with the points that it starts with: its floor (specs/Dues.antt)
--   next x             the first quotient of a device that has no point yet; holder x is the device
--   lead x rs          of x and rs the one whose next quotient goes first
--   raise d x          x with a point more, if it is the device d
--   give rs            rs with a point more, at its lead
--   give_all k rs       rs with k points more, one by one
--   allotted R ds      each device with its points
--   lower_quota R ds    the share of each device, in the order of ds
use Rattle.std.specs.Prelude.{cond, List, [], ◌∷◌, map, ℕ, zero, suc, ◌+◌, eqb}
use Rattle.slicing.specs.Devices.{Device, capacities}
use Rattle.slicing.specs.Dues.{floor, leftover}
use Rattle.slicing.specs.GreatestDivisors.{Quotient, ◌over◌, before}
use Rattle.slicing.specs.Runs.{Run, ◌of◌, one, relabel}

abbrev pub start : ℕ → ℕ → List Device → List (Run Device)
start R C [] = []
start R C (e ∷ ds) = (floor R C e of e) ∷ start R C ds

abbrev pub next : Run Device → Quotient
next (s of e) = e over suc s

abbrev pub lead : Run Device → List (Run Device) → Run Device
lead x [] = x
lead x (y ∷ rs) = lead (cond (before (next y) (next x)) y x) rs

abbrev pub holder : Run Device → Device
holder (s of e) = e

abbrev pub raise : ℕ → Run Device → Run Device
raise d (s of e) = s + one (eqb d e.id) of e

abbrev pub give : List (Run Device) → List (Run Device)
give [] = []
give (x ∷ rs) = map (raise (holder (lead x rs)).id) (x ∷ rs)

abbrev pub give_all : ℕ → List (Run Device) → List (Run Device)
give_all zero rs = rs
give_all (suc k) rs = give_all k (give rs)

abbrev pub allotted : ℕ → List Device → List (Run Device)
allotted R ds = give_all (leftover R (capacities ds) ds) (start R (capacities ds) ds)

unfoldable pub lower_quota : ℕ → List Device → List (Run ℕ)
lower_quota R ds = relabel (λ e. e.id) (allotted R ds)
