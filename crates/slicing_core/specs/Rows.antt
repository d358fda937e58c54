-- Arrays as lists of runs, devices and intervals: how the code's arrays are read.
--
--   at xs i                 what stands at place i, 0 past the end
--   rows s l i n            n runs from place i: sizes in s, labels in l
--   device_rows d c i n      n devices from place i: ids in d, capacities in c
--   table_rows p o R i n     n intervals from place i as runs: starts in p, owners in o; each runs to the next start, the last to R
--   interval_rows p o R i n  the same as intervals
use Rattle.std.specs.Prelude.{List, [], ◌∷◌, ℕ, zero, suc, ◌-◌, get_or}
use Rattle.slicing.specs.Devices.{Device, device}
use Rattle.slicing.specs.Runs.{Run, ◌of◌, Interval}

abbrev pub at : List ℕ → ℕ → ℕ
at xs i = get_or xs i 0

abbrev pub rows : List ℕ → List ℕ → ℕ → ℕ → List (Run ℕ)
rows s l i zero = []
rows s l i (suc n) = (at s i of at l i) ∷ rows s l (suc i) n

abbrev pub device_rows : List ℕ → List ℕ → ℕ → ℕ → List Device
device_rows d c i zero = []
device_rows d c i (suc n) = device (at d i) (at c i) ∷ device_rows d c (suc i) n

abbrev pub table_rows : List ℕ → List ℕ → ℕ → ℕ → ℕ → List (Run ℕ)
table_rows p o R i zero = []
table_rows p o R i (suc zero) = (R - at p i of at o i) ∷ []
table_rows p o R i (suc (suc n)) = (at p (suc i) - at p i of at o i) ∷ table_rows p o R (suc i) (suc n)

abbrev pub interval_rows : List ℕ → List ℕ → ℕ → ℕ → ℕ → List Interval
interval_rows p o R i zero = []
interval_rows p o R i (suc zero) = record { start = at p i; size = R - at p i; owner = at o i } ∷ []
interval_rows p o R i (suc (suc n)) =
    record { start = at p i; size = at p (suc i) - at p i; owner = at o i } ∷ interval_rows p o R (suc i) (suc n)
