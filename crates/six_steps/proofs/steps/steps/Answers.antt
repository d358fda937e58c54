-- `six_steps::steps::steps` meets its contract: the stages, one after the other, are the six steps of the rules.
use mathlib.Core.Path.{ap, ◌∙◌}
use native.Mathlib.Omega.{arith}
use lib.ListN.{length}
use Rattle.slicing.specs.SixSteps.{moves_from}
use Rattle.six_steps.proofs.Composition.{Pieced, pieced, pieced_enough, pieced_total, pieced_turned, turned_moved, turned_total, turned_owners, turned_table, turned_labels}
use Rattle.six_steps.proofs.steps.steps.Goals as goal
use Rattle.six_steps.proofs.steps.steps.Goals.{After-cut-pieces}

pieces_cut : (c : After-cut-pieces)
    → Pieced c.args.work.now c.args.has.now c.args.due.now c.args.q c.args.n c.quotas-moved.new.queue c.cut-pieces.new.pieces c.cut-pieces.result
pieces_cut c =
    let quoted = c.quotas-moved.ensures in
    pieced _ _ _ _ _ c.quotas-moved.new.release _ _ _ c.requires.q_bound.2 c.requires.below.2 quoted.released quoted.queue c.cut-pieces.ensures.pieces

pub fill-turns-requires : goal.fill-turns-requires
fill-turns-requires c =
    let w = pieces_cut (goal.at.fill-turns-requires c).After-cut-pieces in
    let pieces = c.cut-pieces.ensures.few in
    let lengths = c.quotas-moved.ensures.lengths in
    let pre = c.requires.q_bound in
    record {
      n_bound = (pre.1, omega (arith, pieces.0, pre.0, pre.1), pieces.1, lengths.0);
      p_bound = (pieced_enough w, omega (arith, pieced_total w, pre.3));
      pieces_len = (pieces.2, lengths.2, c.requires.work_len.0);
    }

pub new_table-requires : goal.new_table-requires
new_table-requires c =
    let w = pieced_turned (pieces_cut (goal.at.new_table-requires c).After-cut-pieces) _ _ c.fill-turns.ensures.turns in
    (omega (arith, c.fill-turns.ensures.few, c.cut-pieces.ensures.few, c.requires.q_bound), omega (arith, turned_total w, c.requires.q_bound.3), c.fill-turns.ensures.few.2)

pub returns : goal.returns
returns c =
    let w = pieced_turned (pieces_cut (goal.at.returns c).After-cut-pieces) _ _ c.fill-turns.ensures.turns in
    record {
      turned = w.filled;
      renewed = turned_table w c.new_table.new.table c.new_table.result c.new_table.ensures.table;
      moved = omega (arith, c.quotas-moved.ensures.sum, turned_moved w);
      count = c.count_moves.ensures ∙ ap (λ r. length (moves_from 0 r)) w.filled;
      labels = turned_labels w c.new_table.new.table c.new_table.result c.new_table.ensures.table;
      owners = turned_owners w;
      same = turned_total w;
      most = omega (arith, c.fill-turns.ensures.few, c.cut-pieces.ensures.few, c.requires.q_bound);
      work_size = c.fill-turns.ensures.few.1;
      next_size = c.new_table.ensures.few.1;
    }
