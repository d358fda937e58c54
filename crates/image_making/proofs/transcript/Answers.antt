-- `image_making::transcript` meets its contract.
use native.Mathlib.Omega.{arith}
use Rattle.std.proofs.lemmas.Bool.Decides.{nat_tests}
use Rattle.image_making.proofs.StoredPools.{transcript_whole, transcript_none}
use Rattle.image_making.proofs.transcript.Goals as goal

pub returns-in-Ok : goal.returns-in-Ok
returns-in-Ok c =
    transcript_whole c.args.text.now c.args.out.now _ c.args.answer.now (grind (arith, nat_tests)) _ c.in-Ok.ensures _ c.put.ensures

pub returns-in-Err : goal.returns-in-Err
returns-in-Err c =
    rw c.from-in-Err.ensures
    (transcript_none c.args.text.now c.args.out.now _ c.args.answer.now (grind (arith, nat_tests)) _ c.in-Err.ensures _ c.put-in-Err.ensures)
