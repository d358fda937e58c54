-- `placement::write_moves` meets its contract. The loop's invariant: the moves of the turns passed stand in front, and the rest of the list stays.
use Prim.Native.Nat.{◌+◌, ◌/◌}
use native.Mathlib.Omega.{arith}
use Rattle.std.proofs.lemmas.List.{set-get_or}
use Rattle.slicing_core.specs.Rows.{at}
use Rattle.placement.proofs.Listing.{Listed, put_back, listed_as, listed_on, listed_more, listed_end, listed_size, listed_room, listed_points}
use Rattle.placement.proofs.write_moves.Goals as goal
use Rattle.placement.proofs.write_moves.Goals.{then-from-to, else-from-to}

pub bounds-list-count : goal.bounds-list-count
bounds-list-count c =
    listed_room c.loop-i.invariant c.loop-i-test.true c.if-from-to.true c.requires.2

pub overflow_add-count : goal.overflow_add-count
overflow_add-count c =
    omega (
      arith,
      listed_room c.loop-i.invariant c.loop-i-test.true c.if-from-to.true c.requires.2,
      listed_size c.loop-i.invariant c.requires.2,
    )

pub overflow_add-start : goal.overflow_add-start
overflow_add-start c =
    omega (arith, listed_points c.loop-i.invariant c.loop-i-test.true, c.requires.1)

pub loop-i-preserved : goal.loop-i-preserved
loop-i-preserved c =
    let w = c.loop-i.invariant in
    let h = c.loop-i-test.true in
    let a = c.args in
    let listed : Listed a.turns.now a.t a.names.now a.list.now c.if-from-to.list c.if-from-to.count (c.loop-i.start + at a.turns.now c.loop-i.i / 65536) (c.loop-i.i + 1) =
    elim c.if-from-to.branch [
      | then-from-to s ↦ rw (s.count-is, s.list-is) (listed_more w h s.if-from-to.true c.requires.2)
      | else-from-to s ↦ rw (s.count-is, s.list-is) (listed_on w h s.if-from-to.false)
    ] in
    -- nothing else is written; with the two lemmas a move put back where it stands is nothing else (docs/DECISIONS.md 96)
    listed_as (grind (arith, set-get_or, put_back)) listed

pub returns : goal.returns
returns c =
    listed_end c.loop-i.invariant c.loop-i-test.false
