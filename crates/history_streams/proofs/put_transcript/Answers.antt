-- `history_streams::put_transcript` meets its contract.
use Rattle.std.proofs.Common.{arith, refl}
use Rattle.history_streams.proofs.Transcripts.{printed_counts, printed_text, refused_never}
use Rattle.history_streams.proofs.put_transcript.Goals as goal

pub returns-in-Ok : goal.returns-in-Ok
returns-in-Ok c =
    let counts = printed_counts c.args.text.now c.args.out.now _ _ c.in-Ok.ensures (omega arith) _ refl in
    let text = printed_text c.args.text.now c.args.out.now _ _ c.in-Ok.ensures (omega arith) _ refl in
    record { count = counts; text = text }

pub returns-in-Err : goal.returns-in-Err
returns-in-Err c = absurd (refused_never c.args.text.now c.args.out.now _ _ c.in-Err.ensures (omega arith) _ refl)
