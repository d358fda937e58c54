-- The outcomes of `pools::fresh`, `valid_pools::valid` and `share`.
--
--   WithoutDevices R M p     p has the range R and the limit M, and nothing else
-- fresh: fresh_outside (2), fresh_inside
-- valid: valid_yes, valid_no; valid_decided
-- share: share_invalid (2), share_outside (2), share_absent (5), share_present
use mathlib.Core.Path.{◌≡◌, ◌∙◌, subst}
use mathlib.Core.Bool.{Bool, true, false}
use Prim.Native.Nat.{ℕ}
use lib.ListN.{replicate}
use Rattle.slicing.specs.ShareRule.{share_of}
use Rattle.slicing_core.specs.Stages.{Decides}
use Rattle.pools.specs.Pools.{state_of, pool_of, ValidPool}
use Rattle.pools.specs.Promises.{Fresh}
use Rattle.std.specs.Prelude.{Result, Ok, Err}
use Rattle.refusals.specs.Replies.{reply_of}
use Rattle.refusals.specs.declared.Refusal.{Refusal}
use Rattle.refusals.specs.declared.Refusal.TheVariants.{Outside, Absent}
use Rattle.valid_pools.specs.Promises.{Shared}
use Rattle.pools.specs.declared.Pool.{Pool}
use Rattle.pools.specs.declared.PoolAnswer.{PoolAnswer}
use Rattle.demand3.specs.Points.{Listed}
use Rattle.guarantees.proofs.Conditions.{Inside, inside_false, inside_true, two_inside, two_outside, Decided, within, without, Says, says, listed_present, unlisted_absent}

-- a pool of the range R and the limit M, without devices
abbrev pub WithoutDevices : ℕ → ℕ → Pool → Type 0
WithoutDevices R M p = p ≡ record {
  range = R;
  limit = M;
  devices = 0;
  ids = replicate 256 0;
  capacities = replicate 256 0;
  intervals = 0;
  starts = replicate 4096 0;
  owners = replicate 4096 0;
}

module _ (R M : ℕ) (r : PoolAnswer) (k : Fresh R M r) where
  -- a range or a limit outside its limits: 2, and the pool has R = 1 and M = 1
  pub fresh_outside : (Inside 4294967296 R → Inside 4096 M → ⊥) → (r.refusal ≡ 2) × WithoutDevices 1 1 r.pool
  unfolding pool_of
  fresh_outside h = let e = two_outside 4294967296 R 4096 M h in (rw e at k.number, rw e at k.pool)

  pub fresh_inside : Inside 4294967296 R → Inside 4096 M → (r.refusal ≡ 0) × WithoutDevices R M r.pool
  unfolding pool_of
  fresh_inside i j = let e = two_inside 4294967296 R 4096 M i j in (rw e at k.number, rw e at k.pool)

module _ (p : Pool) (r : Bool) (k : Decides r (ValidPool p)) where
  pub valid_yes : r ≡ true → ValidPool p
  valid_yes e = subst (λ b. Decides b (ValidPool p)) e k

  pub valid_no : r ≡ false → ValidPool p → ⊥
  valid_no e = subst (λ b. Decides b (ValidPool p)) e k

pub valid_decided : (p : Pool) (r : Bool) → Decides r (ValidPool p) → Decided (ValidPool p)
valid_decided p true k = within k
valid_decided p false k = without k

module _ (p : Pool) (id : ℕ) (r : Result ℕ Refusal) (k : Shared p id r) where
  -- a pool that is not valid
  pub share_invalid : (ValidPool p → ⊥) → (r ≡ Err Outside) × Says (reply_of r) 2 0
  share_invalid h = (k.invalid h, says (k.invalid_reply h))

  module _ (v : ValidPool p) where
    -- an id outside 1 to 65,535
    pub share_outside : (Inside 65535 id → ⊥) → (r ≡ Err Outside) × Says (reply_of r) 2 0
    share_outside h = let e = inside_true 65535 id h in (k.valid v ∙ rw e, says (k.reply v ∙ rw e))

    module _ (i : Inside 65535 id) where
      -- an id that the pool does not list
      pub share_absent : (Listed p id → ⊥) → (r ≡ Err Absent) × Says (reply_of r) 5 0
      share_absent h =
          let e = inside_false 65535 id i in
          let f = unlisted_absent p id h in
          (k.valid v ∙ rw (e, f), says (k.reply v ∙ rw (e, f)))

      pub share_present : Listed p id
          → (r ≡ Ok (share_of p.range (state_of p).devices id)) × Says (reply_of r) 0 (share_of p.range (state_of p).devices id)
      unfolding state_of
      share_present h =
          let e = inside_false 65535 id i in
          let f = listed_present p id h in
          (k.valid v ∙ rw (e, f), says (k.reply v ∙ rw (e, f)))
