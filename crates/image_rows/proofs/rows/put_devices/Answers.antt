-- `image_rows::rows::put_devices` meets its contract. The loop's invariant: the first i rows are written, and the rest is as it was.
use mathlib.Core.Path.{refl}
use native.Mathlib.Omega.{arith}
use Rattle.slicing.specs.ShareRule.{share_of}
use Rattle.opened.specs.OpenPools.{devices_in}
use Rattle.opened.proofs.OpenPools.{open_few, open_share}
use Rattle.image_rows.proofs.ThreeNumbers.{devices_put}
use Rattle.image_rows.proofs.rows.put_devices.Goals as goal

pub loop-i-init : goal.loop-i-init
loop-i-init c =
    (refl, open_few c.requires.0, refl)

pub loop-i-preserved : goal.loop-i-preserved
loop-i-preserved c =
    let o = c.args.opened in (
      omega (arith, c.loop-i.invariant.0),
      c.loop-i.invariant.1,
      devices_put (share_of o.range (devices_in o)) o.ids o.capacities c.args.rows.now _ _ c.loop-i.i _
          (open_share c.requires.0 c.loop-i.i (omega arith)) c.loop-i.invariant.2 c.put_row.ensures,
    )
