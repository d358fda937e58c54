-- `image_rows::numbering::share` meets its contract.
use native.Mathlib.Omega.{arith}
use Rattle.std.specs.Prelude.{Ok, Err}
use Rattle.std.proofs.lemmas.Bool.Decides.{nat_tests}
use Rattle.image_rows.proofs.ToldPools.{shared_found}
use Rattle.image_rows.proofs.numbering.share.Goals as goal

pub returns-in-Ok : goal.returns-in-Ok
returns-in-Ok c =
    shared_found c.args.image.now c.args.id c.args.answer.now (grind (arith, nat_tests)) (Ok c.in-Ok.device) c.in-Ok.ensures _ c.put.ensures

pub returns-in-Err : goal.returns-in-Err
returns-in-Err c =
    rw c.from-in-Err.ensures
    (shared_found c.args.image.now c.args.id c.args.answer.now (grind (arith, nat_tests)) (Err c.in-Err.refusal) c.in-Err.ensures _ c.put-in-Err.ensures)
