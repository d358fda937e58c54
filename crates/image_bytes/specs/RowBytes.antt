-- Rows of an image from arrays: how the stages of a write put them.
--
--   pair_bytes a b xs ys i n     n rows from place i on: the numbers of xs in a bytes, those of ys in b bytes
--   short_place, long_place      where the short number and the long one of a row begin
--   row_bytes r x y              a row of a short number x and a long one y
--   rows_bytes r xs ys i n       n such rows from place i on: the short numbers of xs, the long ones of ys
--   pool_in xs                   the pool whose arrays hold the columns of the rows, unused places 0
use Rattle.std.specs.Prelude.{List, [], ◌++◌, ℕ, zero, suc}
use Rattle.pools.specs.Pools.{padded}
use Rattle.pools.specs.declared.Pool.{Pool}
use Rattle.sha1_blocks.specs.Fips180.{bytes}
use Rattle.slicing_core.specs.Rows.{at}
use Rattle.image_bytes.specs.declared.rows.Row.{Row}
use Rattle.image_bytes.specs.declared.rows.Row.TheVariants.{Device, Interval}
use Rattle.image_numbers.specs.Format.{range_in, limit_in, devices_in, intervals_in, ids_in, capacities_in, starts_in, owners_in}

abbrev pub pair_bytes : ℕ → ℕ → List ℕ → List ℕ → ℕ → ℕ → List ℕ
pair_bytes a b xs ys i zero = []
pair_bytes a b xs ys i (suc n) = bytes a (at xs i) ++ bytes b (at ys i) ++ pair_bytes a b xs ys (suc i) n

-- short: in 2 bytes, as ids and owners; long: in 4 bytes, as capacities and starts
abbrev pub short_place : Row → ℕ
short_place Device = 0
short_place Interval = 4

abbrev pub long_place : Row → ℕ
long_place Device = 2
long_place Interval = 0

abbrev pub row_bytes : Row → ℕ → ℕ → List ℕ
row_bytes Device x y = bytes 2 x ++ bytes 4 y
row_bytes Interval x y = bytes 4 y ++ bytes 2 x

abbrev pub rows_bytes : Row → List ℕ → List ℕ → ℕ → ℕ → List ℕ
rows_bytes Device xs ys i n = pair_bytes 2 4 xs ys i n
rows_bytes Interval xs ys i n = pair_bytes 4 2 ys xs i n

unfoldable pub pool_in : List ℕ → Pool
pool_in xs = record {
  range = range_in xs;
  limit = limit_in xs;
  devices = devices_in xs;
  ids = padded 256 (ids_in xs);
  capacities = padded 256 (capacities_in xs);
  intervals = intervals_in xs;
  starts = padded 4096 (starts_in xs);
  owners = padded 4096 (owners_in xs);
}
