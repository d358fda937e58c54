-- Opening an image: what it leaves, from what the calls beneath it answered.
--
-- opened_stored (what an accepted image leaves)
use mathlib.Core.Path.{◌≡◌, sym, ap}
use mathlib.Core.List.{List, ◌∷◌, ◌++◌}
use Prim.Native.Nat.{ℕ, ◌≤◌}
use native.Mathlib.Omega.{arith}
use lib.ListN.{length, drop}
use Rattle.pools.specs.Pools.{state_of, pool_of, ValidPool}
use Rattle.pools.specs.declared.Pool.{Pool}
use Rattle.pools.specs.declared.PoolAnswer.{PoolAnswer}
use Rattle.images.specs.Promises.{ReadAs}
use Rattle.images.proofs.OnImages.{on_image_accepted, on_image_valid}
use Rattle.opened_lookups.specs.Promises.{opened_as, OpenedFrom}

-- a valid pool's arrays and numbers are those of its state
pool_opened : (p : Pool) → ValidPool p → (s o m : List ℕ)
    → record { number = 0; starts = p.starts ++ drop 4096 s; owners = p.owners ++ drop 4096 o; numbers = p.range ∷ p.intervals ∷ p.devices ∷ drop 3 m }
    ≡ opened_as s o m (state_of p)
unfolding pool_of
pool_opened p v s o m =
    ap (λ (q : Pool). record {
      number = 0;
      starts = q.starts ++ drop 4096 s;
      owners = q.owners ++ drop 4096 o;
      numbers = q.range ∷ q.intervals ∷ q.devices ∷ drop 3 m;
    }) (sym v.same)

module _ (xs s o m : List ℕ) where
  module _ (made : PoolAnswer) (i : ReadAs xs made) (l : 4096 ≤ length s) (j : 4096 ≤ length o) (k : 3 ≤ length m) where
    pub opened_stored : (s' o' m' : List ℕ) → made.refusal ≤ 0 → s' ≡ made.pool.starts ++ drop 4096 s → o' ≡ made.pool.owners ++ drop 4096 o
        → m' ≡ made.pool.range ∷ made.pool.intervals ∷ made.pool.devices ∷ drop 3 m
        → OpenedFrom xs s o m (record { number = 0; starts = s'; owners = o'; numbers = m' })
    opened_stored s' o' m' z e f g = record {
      no_starts = λ h. absurd (omega (arith, h, l));
      no_owners = λ h. absurd (omega (arith, h, j));
      no_numbers = λ h. absurd (omega (arith, h, k));
      room = λ p q t. on_image_accepted xs _ _ _ made i z (rw (e, f, g) (pool_opened made.pool (on_image_valid xs made i z) s o m));
    }
