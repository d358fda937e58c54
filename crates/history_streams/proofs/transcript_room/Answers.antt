-- `history_streams::transcript_room` meets its contract.
use Rattle.std.proofs.Common.{ℕ, sym}
use lib.ListN.{length-replicate}
use Rattle.history_streams.proofs.transcript_room.Goals as goal

pub returns : goal.returns
returns c = sym (length-replicate {A = ℕ} 3145728 0)
