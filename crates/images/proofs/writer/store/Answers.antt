-- `images::writer::store` meets its contract: 17, then the image.
use Prim.Native.Nat.{◌+◌, ◌*◌, ◌<◌, ◌^◌}
use native.Mathlib.Omega.{arith}
use Rattle.pools.specs.Pools.{ValidPool}
use Rattle.pools.specs.declared.Pool.{Pool}
use Rattle.pools.proofs.ValidParts.{valid_limited}
use Rattle.images.proofs.WriteAnswers.{stored_short, stored_whole}
use Rattle.images.proofs.writer.store.Goals as goal

size_fits : (p : Pool) → ValidPool p → 19 + 6 * p.devices + 6 * p.intervals < 2 ^ 64
size_fits p v = let l = valid_limited _ v in omega (arith, l.few, l.fits, l.room_most)

pub overflow_mul-size : goal.overflow_mul-size
overflow_mul-size c =
    omega (arith, size_fits _ c.requires)

pub overflow_add-size : goal.overflow_add-size
overflow_add-size c =
    omega (arith, size_fits _ c.requires)

pub overflow_mul-size-2 : goal.overflow_mul-size-2
overflow_mul-size-2 c =
    omega (arith, size_fits _ c.requires)

pub overflow_add-size-2 : goal.overflow_add-size-2
overflow_add-size-2 c =
    omega (arith, size_fits _ c.requires)

pub returns-then-buffer-size : goal.returns-then-buffer-size
returns-then-buffer-size c =
    let all = stored_short c.args.pool c.requires c.args.buffer.now c.if-buffer-size.true in
    record { answer = all.0; buffer = all.1 }

pub returns : goal.returns
returns c =
    let all = stored_whole c.args.pool c.requires c.args.buffer.now _ c.if-buffer-size.false c.put_image.ensures in
    record { answer = all.0; buffer = all.1 }
