-- What a run of calls gives, in plain terms: each follows from the fields of `Opened`, `Continued` and `Ran` alone.
--
--   run_made             the call that makes the pool kept its promise
--   run_accepted         a run is refused exactly where that call is, and then it answers what that call answered
--   run_asked, run_kept  the calls made are those that the numbers ask for, and each kept its promise on the pool that the last one left
--   run_demand3          demand 3 holds of them
--   run_agrees           the pool answered and the ledger fed with the answers agree
use mathlib.Core.Path.{◌≡◌, refl, sym, ap, ◌∙◌, subst}
use mathlib.Core.List.{List}
use Prim.Native.Nat.{ℕ, zero, suc}
use native.Mathlib.Omega.{arith}
use Rattle.pools.specs.declared.Pool.{Pool}
use Rattle.pools.specs.declared.PoolAnswer.{PoolAnswer}
use Rattle.slicing.specs.Ledger.{Ledger}
use Rattle.demand3.specs.CallLists.{calls_of, Kept, ledger_after}
use Rattle.demand3.specs.Demand3.{Agreement, Demand3}
use Rattle.demand3.specs.Promises.{calls_in, Ran, Opened}
use Rattle.demand3.proofs.Sentences.{agreement_end}

module _ (Made : PoolAnswer → Type 0) (R M : ℕ) (b : Ledger) (xs : List ℕ) (n : ℕ) (r : PoolAnswer) (o : Opened Made R M b xs n r) where
  pub run_made : Made o.first
  run_made = o.made

  pub run_accepted : (o.first.refusal ≡ 0 → r.refusal ≡ 0) × (r.refusal ≡ 0 → o.first.refusal ≡ 0)
      × ((r.refusal ≡ 0 → ⊥) → r ≡ o.first)
  run_accepted = (o.continued.number, back o.first.refusal refl, λ h. o.continued.refused (λ z. h (o.continued.number z)))
    where
      back : (k : ℕ) → o.first.refusal ≡ k → r.refusal ≡ 0 → o.first.refusal ≡ 0
      back zero e z = e
      back (suc k) e z = sym (ap (λ (a : PoolAnswer). a.refusal) (o.continued.refused (λ h. omega (arith, e, h)))) ∙ z

  module _ (z : o.first.refusal ≡ 0) where
    abbrev pub ran : Ran o.first.pool xs n r.pool
    ran = o.continued.ran z

    pub run_asked : calls_of ran.steps ≡ calls_in n xs
    run_asked = ran.asked

    pub run_kept : Kept o.first.pool ran.steps
    run_kept = ran.kept

    pub run_demand3 : Demand3 R M o.first.pool b ran.steps
    run_demand3 = o.claim z

    pub run_agrees : Agreement R M r.pool (ledger_after b ran.steps)
    run_agrees =
        subst (λ (p : Pool). Agreement R M p (ledger_after b ran.steps)) (sym ran.last)
        (agreement_end R M ran.steps o.first.pool b run_demand3)
