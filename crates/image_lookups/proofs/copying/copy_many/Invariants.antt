-- `image_lookups::copying::copy_many` meets its contract. The loop's invariant: the rows and the counters of the first i blocks.
use Rattle.pools.specs.Pools.{state_of}
use Rattle.image_lookups.proofs.CopiedRows.{Many}
use Rattle.image_lookups.proofs.copying.copy_many.Given as goal

abbrev pub invariant-loop-i : goal.invariant-loop-i
invariant-loop-i l =
    Many (state_of l.fn.pool) l.k l.blocks l.initial.rows l.initial.after l.rows l.after l.i
