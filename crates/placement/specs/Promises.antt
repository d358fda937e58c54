-- What the offered changes promise, with their list in its named form.
--
--   move_of m, row_of m       a move of the list as the rules' move, and back
--   Answered ..             the values of an answer, from an outcome of the rules
--   Changed p lent k r l    r answers the change k on the pool p, and l is the lent list afterwards
use Rattle.std.specs.Prelude.{◌≡◌, List, ◌++◌, map, drop}
use Rattle.pools.specs.Pools.{state_of, pool_of, ValidPool}
use Rattle.pools.specs.declared.Pool.{Pool}
use Rattle.slicing.specs.Changes.{Change, Outcome, refused, change}
use Rattle.slicing.specs.Claims.{written}
use Rattle.slicing.specs.SixSteps as Rules
use Rattle.placement.specs.declared.ChangeAnswer.{ChangeAnswer}
use Rattle.placement.specs.declared.Move.{Move}

abbrev pub move_of : Move → Rules.Move
move_of m = Rules.move m.start m.length m.from m.to

abbrev pub row_of : Rules.Move → Move
row_of m = record { start = m.start; length = m.size; from = m.from; to = m.to }

-- 'The call writes the moves, lowest start first, into the list lent to it, and answers their number and the moved points. List places
-- after them stay.'
pub record Answered (lent : List Move) (o : Outcome) (p : Pool) (r : ChangeAnswer) (after : List Move) : Type 0 where
  pub number : r.refusal ≡ o.number
  pub moved : r.moved ≡ o.moved
  pub count : r.count ≡ o.count
  pub pool : r.pool ≡ p
  pub list : after ≡ map row_of (written o) ++ drop o.count lent

-- of a valid pool the rules' outcome; any other is refused with 2
pub record Changed (p : Pool) (lent : List Move) (k : Change) (r : ChangeAnswer) (after : List Move) : Type 0 where
  pub valid : ValidPool p → Answered lent (change (state_of p) (map move_of lent) k) (pool_of (change (state_of p) (map move_of lent) k).state) r after
  pub invalid : (ValidPool p → ⊥) → Answered lent (refused (state_of p) (map move_of lent) 2) p r after
