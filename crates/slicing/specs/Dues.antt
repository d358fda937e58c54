-- What a device is exactly due: R × c / C, with R the range, c its capacity, C the sum of the capacities. Renders document 01, 'Shares', and
-- document 02, Wish 2. Both share rules, that in force and the one before it, begin here.
--
--   floor R C e            the due as a whole number, rounded down
--   remainder R C e        what the rounding leaves
--   floors R C ds          the floors of all devices together
--   leftover R C ds        the points left over where each device has its floor
use Rattle.std.specs.Prelude.{List, [], ◌∷◌, ℕ, ◌+◌, ◌*◌, ◌-◌, ◌/◌, ◌%◌}
use Rattle.slicing.specs.Devices.{Device}

-- 'Each device first gets R × c divided by C, rounded down.' 'R × c divided by C as a whole number' (Wish 2)
abbrev pub floor : ℕ → ℕ → Device → ℕ
floor R C e = R * e.capacity / C

-- 'R × c mod C', 'the remainder' (Wish 2)
abbrev pub remainder : ℕ → ℕ → Device → ℕ
remainder R C e = R * e.capacity % C

abbrev pub floors : ℕ → ℕ → List Device → ℕ
floors R C [] = 0
floors R C (e ∷ ds) = floor R C e + floors R C ds

abbrev pub leftover : ℕ → ℕ → List Device → ℕ
leftover R C ds = R - floors R C ds
