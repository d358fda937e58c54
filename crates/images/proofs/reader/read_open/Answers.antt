-- `images::reader::read_open` meets its contract: the tests are those of the promise, in their order, and the pool is that of the bytes,
-- opened.
use mathlib.Core.Path.{refl, sym, subst}
use native.Mathlib.Omega.{arith}
use Rattle.pools.specs.Pools.{Cleared}
use Rattle.images.specs.Promises.{faulty}
use Rattle.images.proofs.PoolsRead.{pool_in_cleared}
use Rattle.images.proofs.ReadAnswers.{counts, not_valid, sound, read_whole}
use Rattle.images.proofs.reader.read_open.Goals as goal
use Rattle.images.proofs.reader.read_open.Goals.{then-n-gt-MAX_DEVICES-via-then-n-gt-MAX_DEVICES, then-n-gt-MAX_DEVICES-via-else-n-gt-MAX_DEVICES+then-q-gt-MAX_INTERVALS, then-n-gt-MAX_DEVICES-via-else-n-gt-MAX_DEVICES+else-q-gt-MAX_INTERVALS+then-image-n}

pub returns-then-n-gt-MAX_DEVICES-clause-read : goal.returns-then-n-gt-MAX_DEVICES-clause-read
returns-then-n-gt-MAX_DEVICES-clause-read c =
    faulty (cc) (cc)
    (λ s.
    let k = counts _ s in
    elim c.then-n-gt-MAX_DEVICES.branch [
      | then-n-gt-MAX_DEVICES-via-then-n-gt-MAX_DEVICES w ↦ omega arith
      | then-n-gt-MAX_DEVICES-via-else-n-gt-MAX_DEVICES+then-q-gt-MAX_INTERVALS w ↦ omega arith
      | then-n-gt-MAX_DEVICES-via-else-n-gt-MAX_DEVICES+else-q-gt-MAX_INTERVALS+then-image-n w ↦ omega arith
    ])
    refl

pub open_cleared-requires : goal.open_cleared-requires
open_cleared-requires c =
    (subst Cleared (sym c.described-pool.ensures) (pool_in_cleared _), c.requires)

pub returns-in_default-clause-read : goal.returns-in_default-clause-read
returns-in_default-clause-read c =
    faulty (cc) (cc) (not_valid _ _ c.described-pool.ensures c.in_default.ensures.valid) refl

pub returns-clause-read : goal.returns-clause-read
returns-clause-read c =
    read_whole _ (cc) (cc)
    (sound _ _ _ _ c.number-n.ensures.0 c.number-q.ensures.0 c.if-image-n.false c.described-pool.ensures c.in-Some.ensures.valid)
    _ c.described-pool.ensures
