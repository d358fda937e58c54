-- What the offered lookups promise.
--
--   Located block t R r       r answers the call for the point of a probe
--   TableOf t s o q n R       t is the table of these arrays and numbers
--   LookedIn .., Looked p x r     r answers the call for the owner of a point, on arrays of any contents and on a pool
--   CopiedIn .., Copied p ..      r answers the call for copies, on arrays of any contents and on a pool
use Rattle.std.specs.Prelude.{◌≡◌, Bool, cond, ◌||◌, List, ℕ, Result, Ok, Err, min, eqb, leb, ltb}
use Rattle.lookup_core.specs.Halving.{owner_found, clamped}
use Rattle.lookup_core.specs.Probes.{point_of}
use Rattle.lookup_core.specs.Probing.{owner_of}
use Rattle.pools.specs.Pools.{state_of, ValidPool}
use Rattle.pools.specs.declared.Pool.{Pool}
use Rattle.slicing.specs.Limits.{max_range, outside}
use Rattle.refusals.specs.Replies.{reply_of, replied, declined}
use Rattle.refusals.specs.declared.Refusal.{Refusal}
use Rattle.refusals.specs.declared.Refusal.TheVariants.{Outside, NoDevice, PointOutside}
use Rattle.slicing.specs.Runs.{owner_at}
use Rattle.lookups.specs.Copies.{Outcome, refusal, copies_of}
use Rattle.lookups.specs.Counting.{counted}
use Rattle.lookups.specs.declared.CopiesAnswer.{CopiesAnswer}
use Rattle.lookups.specs.declared.Counters.{Counters}
use Rattle.lookups.specs.declared.Table.{Table}

-- ---- the point of a probe

-- 'Try t (0 to 255)', R within its limits; else 2
abbrev pub probe_outside : ℕ → ℕ → Bool
probe_outside t R = ltb 255 t || outside max_range R

pub record Located (block t R : ℕ) (r : Result ℕ Refusal) : Type 0 where
  pub answer : r ≡ cond (probe_outside t R) (Err Outside) (Ok (point_of block t R))
  pub reply : reply_of r ≡ cond (probe_outside t R) (declined 2) (replied (point_of block t R))

-- ---- a table

-- lent starts s and owners o, q intervals, n devices, the range R
pub record TableOf (t : Table) (s o : List ℕ) (q n R : ℕ) : Type 0 where
  pub starts : t.columns.starts.now ≡ s
  pub owners : t.columns.owners.now ≡ o
  pub intervals : t.columns.intervals ≡ q
  pub devices : t.devices ≡ n
  pub range : t.range ≡ R

-- ---- the owner of a point

-- '13: point at or above R', then '10: no device', else the owner d
abbrev pub owner_answer : ℕ → ℕ → ℕ → ℕ → Result ℕ Refusal
owner_answer R n x d = cond (leb R x) (Err PointOutside) (cond (eqb n 0) (Err NoDevice) (Ok d))

pub record LookedIn (s o : List ℕ) (q n R x : ℕ) (r : Result ℕ Refusal) : Type 0 where
  pub answer : r ≡ owner_answer R n x (owner_found s o (clamped q) x)
  pub reply : reply_of r ≡ cond (leb R x) (declined 13) (cond (eqb n 0) (declined 10) (replied (owner_found s o (clamped q) x)))

-- 'A plain call gives the owner of a point': of a valid pool, by the rules' table; any other is refused with 2
pub record Looked (p : Pool) (x : ℕ) (r : Result ℕ Refusal) : Type 0 where
  pub valid : ValidPool p → r ≡ owner_answer p.range p.devices x (owner_at (state_of p).table x)
  pub reply : ValidPool p
      → reply_of r
      ≡ cond (leb p.range x) (declined 13) (cond (eqb p.devices 0) (declined 10) (replied (owner_at (state_of p).table x)))
  pub invalid : (ValidPool p → ⊥) → r ≡ Err Outside
  pub invalid_reply : (ValidPool p → ⊥) → reply_of r ≡ declined 2

-- ---- copies

-- the answer that an outcome asks, with the counters c before
pub record Answered (u : Outcome) (c : Counters) (r : CopiesAnswer) : Type 0 where
  pub number : r.refusal ≡ u.number
  pub owners : r.owners ≡ u.owners
  pub probes : r.probes ≡ u.probes
  pub counters : r.counters ≡ cond (eqb u.number 0) (counted c u.probes) c

pub record CopiedIn (s o : List ℕ) (q n R block k : ℕ) (c : Counters) (r : CopiesAnswer) : Type 0 where
  pub found : Answered (copies_of (owner_of s o q (min R max_range) block) n k) c r

-- of a valid pool the rules' outcome, by its table; any other is refused with 2
pub record Copied (p : Pool) (block k : ℕ) (c : Counters) (r : CopiesAnswer) : Type 0 where
  pub valid : ValidPool p → Answered (copies_of (λ t. owner_at (state_of p).table (point_of block t p.range)) p.devices k) c r
  pub invalid : (ValidPool p → ⊥) → Answered (refusal 2 0) c r
