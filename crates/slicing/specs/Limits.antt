-- The limits of document 01, 'Pool and range', each named once; the capacity's is that of document 02, Wish 1.
--
--   max_range        the largest R
--   max_limit        the largest M
--   max_devices      the most devices present
--   max_id           the largest id
--   max_capacity     the largest capacity, in thousandths of a TB
--   outside k x     whether x lies outside 1 to k
--   device_outside   whether a device's id or its capacity lies outside its limits
use Rattle.std.specs.Prelude.{Bool, ◌||◌, ℕ, ltb}

-- 'a range size R (1 to 4,294,967,296)'
abbrev pub max_range : ℕ
max_range = 4294967296

-- 'an interval limit M (1 to 4,096)'
abbrev pub max_limit : ℕ
max_limit = 4096

-- 'At most 256 devices are present.'
abbrev pub max_devices : ℕ
max_devices = 256

-- 'an id (1 to 65,535)'
abbrev pub max_id : ℕ
max_id = 65535

-- 'a capacity in thousandths of a TB', 1 to 16,000,000: 'The largest capacity becomes 16,000,000 thousandths.' (Wish 1)
abbrev pub max_capacity : ℕ
max_capacity = 16000000

abbrev pub outside : ℕ → ℕ → Bool
outside k x = ltb x 1 || ltb k x

abbrev pub device_outside : ℕ → ℕ → Bool
device_outside d c = outside max_id d || outside max_capacity c
