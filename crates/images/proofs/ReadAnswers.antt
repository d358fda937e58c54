-- What each test of a read shows.
--
-- marks: marked_size (marked bytes hold a head)
-- faults: counts (of sound bytes), not_valid (the bytes are not sound), sound (they are)
-- the answer: read_whole
use mathlib.Core.Path.{◌≡◌, refl, sym, ap, ◌∙◌, subst}
use mathlib.Core.Bool.{Bool, true, false, true≢false}
use mathlib.Core.List.{List}
use Prim.Native.Nat.{ℕ, ◌+◌, ◌*◌, ◌≤◌}
use native.Mathlib.Omega.{arith}
use lib.Dec.{leb}
use lib.ListN.{length}
use borrow.Author.Tests.{leb-true}
use Rattle.pools.specs.Pools.{ValidPool}
use Rattle.pools.specs.declared.Pool.{Pool}
use Rattle.pools.specs.declared.PoolAnswer.{PoolAnswer}
use Rattle.image_numbers.specs.Format.{version, head_size, version_in, devices_in, intervals_in, marked, Sound}
use Rattle.images.specs.Promises.{ReadAs, accepted}
use Rattle.image_bytes.specs.RowBytes.{pool_in}
use Rattle.images.proofs.PoolsRead.{devices_few, intervals_few, pool_in_valid, valid_pool_in, pool_of_state_in}

-- ---- marks

pub marked_size : (xs : List ℕ) → marked xs ≡ true → head_size ≤ length xs
marked_size xs m = go (leb head_size (length xs)) refl
  where
    go : (b : Bool) → leb head_size (length xs) ≡ b → head_size ≤ length xs
    go true e = leb-true head_size (length xs) e
    go false e = absurd (true≢false (sym m ∙ rw e))

-- ---- faults

module _ (xs : List ℕ) where
  pub counts : Sound xs → (devices_in xs ≤ 256) × (intervals_in xs ≤ 4096) × (length xs ≡ head_size + 6 * devices_in xs + 6 * intervals_in xs)
  counts s = (devices_few xs s.valid, intervals_few xs s.valid, s.exact)

  pub not_valid : (p : Pool) → p ≡ pool_in xs → (ValidPool p → ⊥) → Sound xs → ⊥
  not_valid p e h s = h (subst ValidPool (sym e) (pool_in_valid xs s.valid))

  pub sound : (n q : ℕ) (p : Pool) → n ≡ devices_in xs → q ≡ intervals_in xs → length xs ≡ head_size + 6 * n + 6 * q → p ≡ pool_in xs → ValidPool p → Sound xs
  sound n q p d i l e v = record { exact = omega arith; valid = valid_pool_in xs (subst ValidPool e v) }

-- ---- the answer

pub read_whole : (xs : List ℕ) → marked xs ≡ true → version_in xs ≡ version → Sound xs → (p : Pool) → p ≡ pool_in xs → ReadAs xs (record { refusal = 0; pool = p })
read_whole xs m v s p e =
    accepted (record { first = m; second = v; sound = s })
    (ap {B = PoolAnswer} (λ z. record { refusal = 0; pool = z }) (e ∙ sym (pool_of_state_in xs s.valid)))
