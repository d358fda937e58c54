-- A pool's table as runs of device rows.
--
--   LengthAt starts owners q R i r          r is the length of interval i of q, or 0 where it cannot be one of a valid table
--   Rowed starts owners q R ids n table     `table` has the intervals as runs, each owner being one of the n ids, named by its row; they cover R
--   NotRowed starts owners q R ids n        the intervals cannot be had so
--   RowsOf .. r                             r says which
--   Dealt starts owners q R ids n due       the intervals cover R, and give each of the n ids its due, and no other
use Rattle.std.specs.Prelude.{◌≡◌, Bool, true, false, List, ◌∷◌, ℕ, ◌+◌, ◌-◌, ◌≤◌, ◌<◌, ◌^◌, eqb}
use Rattle.slicing.specs.Devices.{present}
use Rattle.slicing.specs.Runs.{◌of◌, total, owned, relabel, Differs, Coalesced}
use Rattle.slicing_core.specs.Rows.{at, device_rows, table_rows}
use Rattle.packed_runs.specs.Words.{runs, Labelled}

pub record LengthAt (starts owners : List ℕ) (q R i r : ℕ) : Type 0 where
  pub small : r ≤ 2 ^ 32
  pub some : 1 ≤ r → table_rows starts owners R i (q - i) ≡ (r of at owners i) ∷ table_rows starts owners R (i + 1) (q - (i + 1))
  pub parted : 1 ≤ r → Differs eqb (at owners i) (table_rows starts owners R (i + 1) (q - (i + 1)))
  pub none : r ≡ 0 → Coalesced eqb (table_rows starts owners R i (q - i)) → ⊥

pub record Rowed (starts owners : List ℕ) (q R : ℕ) (ids : List ℕ) (n : ℕ) (table : List ℕ) : Type 0 where
  pub same : relabel (at ids) (runs table 0 q) ≡ table_rows starts owners R 0 q
  pub labels : Labelled n table q
  pub coalesced : Coalesced eqb (table_rows starts owners R 0 q)
  pub covers : total (table_rows starts owners R 0 q) ≡ R

-- of coalesced intervals that cover R, some owner is none of the n ids
abbrev pub NotRowed : List ℕ → List ℕ → ℕ → ℕ → List ℕ → ℕ → Type 0
NotRowed starts owners q R ids n =
    (capacities : List ℕ) → Coalesced eqb (table_rows starts owners R 0 q) → total (table_rows starts owners R 0 q) ≡ R
    → ((d : ℕ) → 1 ≤ owned d (table_rows starts owners R 0 q) → present d (device_rows ids capacities 0 n) ≡ true) → ⊥

abbrev pub RowsOf : List ℕ → List ℕ → ℕ → ℕ → List ℕ → ℕ → List ℕ → Bool → Type 0
RowsOf starts owners q R ids n table true = Rowed starts owners q R ids n table
RowsOf starts owners q R ids n table false = NotRowed starts owners q R ids n

-- the intervals are coalesced and cover R, their owners are among the n ids, and each of these has its due
pub record Dealt (starts owners : List ℕ) (q R : ℕ) (ids : List ℕ) (n : ℕ) (due : List ℕ) : Type 0 where
  pub coalesced : Coalesced eqb (table_rows starts owners R 0 q)
  pub covers : total (table_rows starts owners R 0 q) ≡ R
  pub known : (capacities : List ℕ) (d : ℕ) → 1 ≤ owned d (table_rows starts owners R 0 q) → present d (device_rows ids capacities 0 n) ≡ true
  pub held : (i : ℕ) → i < n → owned (at ids i) (table_rows starts owners R 0 q) ≡ at due i
