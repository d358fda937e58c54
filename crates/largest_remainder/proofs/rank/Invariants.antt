-- `largest_remainder::rank` meets its contract. The loop's invariant: those counted and the rank among the rows left are the rank.
use mathlib.Core.Path.{◌≡◌}
use Prim.Native.Nat.{◌+◌, ◌-◌, ◌≤◌}
use Rattle.largest_remainder.specs.Remainders.{rank as rank_of}
use Rattle.largest_remainder.proofs.rank.Given as goal

abbrev pub invariant-loop-i : goal.invariant-loop-i
invariant-loop-i l =
    (l.before ≤ l.i) × (l.before + rank_of l.remainders l.ids l.p l.i (l.n - l.i) ≡ rank_of l.remainders l.ids l.p 0 l.n)
