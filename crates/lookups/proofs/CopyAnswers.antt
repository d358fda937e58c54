-- A refusal of copies, as the rules have it.
--
-- Refusing (what a refusal shows); refuses_two
use mathlib.Core.Path.{◌≡◌, refl, sym, subst}
use mathlib.Core.Bool.{false}
use Prim.Native.Nat.{ℕ}
use lib.Dec.{eqb}
use lib.ListN.{replicate}
use Rattle.lookups.specs.Copies.{Outcome, refusal}
use Rattle.lookups.specs.Promises.{Answered}
use Rattle.lookups.specs.declared.CopiesAnswer.{CopiesAnswer}
use Rattle.lookups.specs.declared.Counters.{Counters}

-- number x, n probes, zeros, and the counters as they came
abbrev pub Refusing : ℕ → ℕ → Counters → CopiesAnswer → Type 0
Refusing x n c r = (r.refusal ≡ x) × (r.owners ≡ replicate 8 0) × (r.probes ≡ n) × (r.counters ≡ c)

refuses : (u : Outcome) (x n : ℕ) (c : Counters) (r : CopiesAnswer) → u ≡ refusal x n → eqb x 0 ≡ false → Refusing x n c r → Answered u c r
refuses u x n c r e f h = subst (λ (v : Outcome). Answered v c r) (sym e)
    (record { number = h.0; owners = h.1; probes = h.2; counters = rw f h.3 })

pub refuses_two : {c : Counters} {r : CopiesAnswer} → Refusing 2 0 c r → Answered (refusal 2 0) c r
refuses_two {c} {r} h = refuses (refusal 2 0) 2 0 c r refl refl h
