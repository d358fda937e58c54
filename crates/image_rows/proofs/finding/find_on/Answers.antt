-- `image_rows::finding::find_on` meets its contract.
use mathlib.Core.Path.{◌≡◌}
use native.Mathlib.Omega.{arith}
use Rattle.std.specs.Prelude.{Err}
use Rattle.image_rows.proofs.ToldPools.{found_unread, found_told}
use Rattle.image_rows.proofs.finding.find_on.Goals as goal

pub returns-in_err-made : goal.returns-in_err-made
returns-in_err-made c =
    let same : c.from_residual.result ≡ Err c.in_err-made.field-0.0 = grind arith in
    rw same (found_unread c.args.image.now c.args.id _ c.in_err-made.ensures.read)

pub returns : goal.returns
returns c =
    found_told c.args.image.now c.args.id c.in_ok-made.made c.in_ok-made.ensures.read _ _ c.in_ok-made.ensures.opened.1 c.find_device.ensures
