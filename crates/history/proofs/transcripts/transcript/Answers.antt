-- `history::transcripts::transcript` meets its contract: 17, then `too long`, then the replay.
use Rattle.history.proofs.PrintedTables.{transcribed_long, transcribed_whole}
use Rattle.history.proofs.transcripts.transcript.Goals as goal

pub returns-then-text-gt-LONGEST : goal.returns-then-text-gt-LONGEST
returns-then-text-gt-LONGEST c =
    let a = c.args in
    transcribed_long a.text.now a.out.now c.if-out-lt-ROOM.false c.if-text-gt-LONGEST.true c.put_text.result c.put_text.new.out
    c.put_text.ensures.place c.put_text.ensures.text

pub returns : goal.returns
returns c =
    let a = c.args in
    transcribed_whole a.text.now a.out.now c.if-out-lt-ROOM.false c.if-text-gt-LONGEST.false c.replay.result c.replay.new.out
    c.replay.ensures.place c.replay.ensures.text
