-- Lists of lookups from fresh counters. Renders document 01, 'A tally, one for all callers'.
--
--   Lookup            a call for copies and its answer
--   Kept c ts         each call got the counters that the last one left, from c on, and kept its promise
--   accepted ts       how many lookups were accepted
--   probes_of ts       the sum of the probes of accepted lookups
--   left c ts         the counters that the last call left
use Rattle.std.specs.Prelude.{cond, List, [], ◌∷◌, ℕ, ◌+◌, eqb}
use Rattle.pools.specs.declared.Pool.{Pool}
use Rattle.slicing.specs.Runs.{one}
use Rattle.lookups.specs.Promises.{Copied}
use Rattle.lookups.specs.declared.CopiesAnswer.{CopiesAnswer}
use Rattle.lookups.specs.declared.Counters.{Counters}

pub record Lookup : Type 0 where
  pub pool : Pool
  pub block : ℕ
  pub copies : ℕ
  pub answer : CopiesAnswer

abbrev pub Kept : Counters → List Lookup → Type 0
Kept c [] = Unit {0}
Kept c (t ∷ ts) = Copied t.pool t.block t.copies c t.answer × Kept t.answer.counters ts

abbrev pub accepted : List Lookup → ℕ
accepted [] = 0
accepted (t ∷ ts) = one (eqb t.answer.refusal 0) + accepted ts

abbrev pub probes_of : List Lookup → ℕ
probes_of [] = 0
probes_of (t ∷ ts) = cond (eqb t.answer.refusal 0) t.answer.probes 0 + probes_of ts

abbrev pub left : Counters → List Lookup → Counters
left c [] = c
left c (t ∷ ts) = left t.answer.counters ts
