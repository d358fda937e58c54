-- The counters after any list of lookups from fresh ones: the number of accepted lookups and the sum of their probes, each or
-- 4,294,967,295 where that is less.
--
-- Laws: left_counted, counters_fresh.
use mathlib.Core.Path.{◌≡◌, refl, ap}
use mathlib.Core.Bool.{Bool, true, false, cond}
use mathlib.Core.List.{List, [], ◌∷◌}
use Prim.Native.Nat.{ℕ, ◌+◌, ◌≤◌, min}
use native.Mathlib.Omega.{arith}
use lib.Dec.{eqb}
use borrow.Author.Tests.{eqb-true, eqb-false}
use Rattle.pools.specs.Pools.{ValidPool}
use Rattle.pools.specs.declared.Pool.{Pool}
use Rattle.slicing.specs.Runs.{one}
use Rattle.lookups.specs.CounterLists.{Lookup, Kept, accepted, probes_of, left}
use Rattle.lookups.specs.Copies.{Outcome}
use Rattle.lookups.specs.Counting.{most, counted}
use Rattle.lookups.specs.Promises.{Answered, Copied}
use Rattle.lookups.specs.declared.CopiesAnswer.{CopiesAnswer}
use Rattle.lookups.specs.declared.Counters.{Counters}

-- what one call does to the counters, by its answer
answered_counters : (u : Outcome) (c : Counters) (r : CopiesAnswer) → Answered u c r → r.counters ≡ cond (eqb r.refusal 0) (counted c r.probes) c
answered_counters u c r a = rw (a.number, a.probes) a.counters

-- numbers that are equal where a fact holds and where it does not
either : (A : Type 0) (m n : ℕ) → (A → m ≡ n) → ((A → ⊥) → m ≡ n) → m ≡ n
either A m n f g = go (eqb m n) refl
  where
    go : (t : Bool) → eqb m n ≡ t → m ≡ n
    go true e = eqb-true m n e
    go false e = g (λ x. absurd (eqb-false m n e (f x)))

-- the same of every pool, valid or not
copied_counters : (p : Pool) (block k : ℕ) (c : Counters) (r : CopiesAnswer) → Copied p block k c r → (f : Counters → ℕ)
    → f r.counters ≡ f (cond (eqb r.refusal 0) (counted c r.probes) c)
copied_counters p block k c r h f =
    either (ValidPool p) _ _ (λ v. ap f (answered_counters _ c r (h.valid v))) (λ n. ap f (answered_counters _ c r (h.invalid n)))

left_counted : (c : Counters) (ts : List Lookup) → Kept c ts → c.lookups ≤ most → c.probes ≤ most
    → ((left c ts).lookups ≡ min (c.lookups + accepted ts) most) × ((left c ts).probes ≡ min (c.probes + probes_of ts) most)
left_counted c [] k a b = (omega arith, omega arith)
left_counted c (t ∷ ts) k a b =
    go (eqb t.answer.refusal 0) (told (λ u. u.lookups)) (told (λ u. u.probes)) (left_counted d ts k.1)
  where
    d : Counters
    d = t.answer.counters

    told : (f : Counters → ℕ) → f d ≡ f (cond (eqb t.answer.refusal 0) (counted c t.answer.probes) c)
    told = copied_counters t.pool t.block t.copies c t.answer k.0

    go : (e : Bool) → d.lookups ≡ (cond e (counted c t.answer.probes) c).lookups → d.probes ≡ (cond e (counted c t.answer.probes) c).probes
        → (d.lookups ≤ most → d.probes ≤ most → ((left d ts).lookups ≡ min (d.lookups + accepted ts) most) × ((left d ts).probes ≡ min (d.probes + probes_of ts) most))
        → ((left d ts).lookups ≡ min (c.lookups + (one e + accepted ts)) most)
        × ((left d ts).probes ≡ min (c.probes + (cond e t.answer.probes 0 + probes_of ts)) most)
    go true x y ih =
        let r = ih (omega (arith, x)) (omega (arith, y)) in
        (omega (arith, x, r.0), omega (arith, y, r.1))
    go false x y ih =
        let r = ih (omega (arith, x)) (omega (arith, y)) in
        (omega (arith, x, r.0), omega (arith, y, r.1))

pub counters_fresh : (c : Counters) → c.lookups ≡ 0 → c.probes ≡ 0 → (ts : List Lookup) → Kept c ts
    → ((left c ts).lookups ≡ min (accepted ts) most) × ((left c ts).probes ≡ min (probes_of ts) most)
counters_fresh c x y ts k =
    let r = left_counted c ts k (omega arith) (omega arith) in
    (omega (arith, r.0), omega (arith, r.1))
