-- Images of pools. Renders document 01, 'Image', and of document 02 the version of Wish 4.
--
--   mark, version          the mark RSL as a number in three bytes; the version
--   rule                   the share rule that this version stands for
--   image_of s              the bytes of a state
--   number_at xs i k        the number in k bytes from place i on
--   column xs k i n        the numbers in k bytes of n rows of six bytes, the first at place i
--   state_in xs             the state that the bytes of an image give
--   marked xs              whether there is room for a head, and the mark
--   Sound xs               no fault but mark and version
use Rattle.std.specs.Prelude.{◌≡◌, Bool, true, ◌&&◌, List, [], ◌∷◌, ◌++◌, ℕ, zero, suc, ◌+◌, ◌*◌, ◌^◌, eqb, leb, length}
use Rattle.sha1_blocks.specs.Fips180.{bytes}
use Rattle.slicing.specs.Changes.{State}
use Rattle.slicing.specs.Devices.{Device}
use Rattle.slicing.specs.Runs.{Run, ◌of◌}
use Rattle.slicing.specs.ShareRule.{Rule, shares}
use Rattle.slicing.specs.Validity.{ValidWith}
use Rattle.slicing_core.specs.Rows.{at, device_rows, table_rows}

-- 'Bytes 0 to 2 hold the mark RSL (52 53 4C hexadecimal)'
abbrev pub mark : ℕ
mark = 0x52534c

-- 'Images carry version 2; version 1 gets 15.' (Wish 4)
abbrev pub version : ℕ
version = 2

-- a version stands for the share rule that its tables are held against: this is the one place that says which. Version 1 stood for the rule
-- before
abbrev pub rule : Rule
rule = shares

-- 'The device rows begin at byte 19'
abbrev pub head_size : ℕ
head_size = 19

-- ---- from a state to its bytes

-- 'Bytes 0 to 2 hold the mark, 3 to 4 the version, 5 to 12 R, 13 to 14 M, 15 to 16 the device count n, 17 to 18 the interval
-- count q.' 'Numbers stand highest byte first.'
abbrev pub head : ℕ → ℕ → ℕ → ℕ → List ℕ
head R M n q = bytes 3 mark ++ bytes 2 version ++ bytes 8 R ++ bytes 2 M ++ bytes 2 n ++ bytes 2 q

-- 'id in 2, capacity in 4'
abbrev pub device_bytes : List Device → List ℕ
device_bytes [] = []
device_bytes (e ∷ ds) = bytes 2 e.id ++ bytes 4 e.capacity ++ device_bytes ds

-- 'start in 4, owner in 2'; the first interval begins at point p
abbrev pub interval_bytes : ℕ → List (Run ℕ) → List ℕ
interval_bytes p [] = []
interval_bytes p ((n of d) ∷ rs) = bytes 4 p ++ bytes 2 d ++ interval_bytes (p + n) rs

unfoldable pub image_of : State → List ℕ
image_of s =
    head s.range s.limit (length s.devices) (length s.table) ++ device_bytes s.devices ++ interval_bytes 0 s.table

-- ---- from bytes to a state

abbrev pub number_at : List ℕ → ℕ → ℕ → ℕ
number_at xs i zero = 0
number_at xs i (suc k) = at xs i * 2 ^ (8 * k) + number_at xs (suc i) k

abbrev pub version_in : List ℕ → ℕ
version_in xs = number_at xs 3 2

abbrev pub range_in : List ℕ → ℕ
range_in xs = number_at xs 5 8

abbrev pub limit_in : List ℕ → ℕ
limit_in xs = number_at xs 13 2

abbrev pub devices_in : List ℕ → ℕ
devices_in xs = number_at xs 15 2

abbrev pub intervals_in : List ℕ → ℕ
intervals_in xs = number_at xs 17 2

abbrev pub column : List ℕ → ℕ → ℕ → ℕ → List ℕ
column xs k i zero = []
column xs k i (suc n) = number_at xs i k ∷ column xs k (i + 6) n

-- the columns of the rows: 'id in 2, capacity in 4', 'start in 4, owner in 2'
abbrev pub ids_in : List ℕ → List ℕ
ids_in xs = column xs 2 head_size (devices_in xs)

abbrev pub capacities_in : List ℕ → List ℕ
capacities_in xs = column xs 4 (head_size + 2) (devices_in xs)

abbrev pub starts_in : List ℕ → List ℕ
starts_in xs = column xs 4 (head_size + 6 * devices_in xs) (intervals_in xs)

abbrev pub owners_in : List ℕ → List ℕ
owners_in xs = column xs 2 (head_size + 6 * devices_in xs + 4) (intervals_in xs)

-- 'an interval runs to the next start, the last one to R'
unfoldable pub state_in : List ℕ → State
state_in xs = record {
  range = range_in xs;
  limit = limit_in xs;
  devices = device_rows (ids_in xs) (capacities_in xs) 0 (devices_in xs);
  table = table_rows (starts_in xs) (owners_in xs) (range_in xs) 0 (intervals_in xs);
}

-- ---- what is refused

-- '14: under 19 bytes, or another mark'
abbrev pub marked : List ℕ → Bool
marked xs = leb head_size (length xs) && eqb (number_at xs 0 3) mark

-- 'The image's length is 19 + 6n + 6q.' 'Accepted are exactly the images that meet this and the rules of pool and shares.'
pub record Sound (xs : List ℕ) : Type 0 where
  pub exact : length xs ≡ head_size + 6 * devices_in xs + 6 * intervals_in xs
  pub valid : ValidWith (rule (state_in xs).range (state_in xs).devices) (state_in xs)

-- what an image of a pool is: nothing of 14, 15 and 16
pub record Image (xs : List ℕ) : Type 0 where
  pub first : marked xs ≡ true
  pub second : version_in xs ≡ version
  pub sound : Sound xs
