-- What a change on a list of its own promises.
--
--   blanks            a list of blank places, as many as a change can have moves
--   Lends p k n r     r is the change k on the pool p, with a blank list of n places lent, or of all places of `blanks` where n is more
use Rattle.std.specs.Prelude.{List, ℕ, min, take, replicate}
use Rattle.pools.specs.declared.Pool.{Pool}
use Rattle.slicing.specs.Changes.{Change}
use Rattle.packed_runs.specs.Words.{room}
use Rattle.placement.specs.Promises.{Changed}
use Rattle.placement.specs.declared.Move.{Move}
use Rattle.test_lent_lists.specs.declared.Lent.{Lent}

abbrev pub blanks : List Move
blanks = replicate room (record { start = 7; length = 7; from = 7; to = 7 })

pub record Lends (p : Pool) (k : Change) (n : ℕ) (r : Lent) : Type 0 where
  pub changed : Changed p (take (min n room) blanks) k r.answer (take (min n room) r.list)
