-- `lookup_core::Columns::probe_owners` meets its contract. The loop's invariant: the owners chosen stand in the list, then zeros, and the probing
-- from probe `t` on is the whole probing.
use Rattle.lookup_core.proofs.ProbeSteps.{Probing}
use Rattle.lookup_core.proofs.Columns.probe_owners.Given as goal

abbrev pub invariant-loop-t : goal.invariant-loop-t
invariant-loop-t l =
    Probing l.self.starts.now l.self.owners.now l.self.intervals l.range l.block l.k l.list l.found l.t
