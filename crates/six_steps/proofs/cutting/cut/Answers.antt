-- `six_steps::cutting::cut` meets its contract. The loop's invariant: the pieces written and those of the walk from interval i on are all.
use Rattle.six_steps.proofs.CutSteps.{cutting_pass, cutting_step}
use Rattle.six_steps.proofs.cutting.cut.Goals as goal
use Rattle.six_steps.proofs.cutting.cut.Goals.{then-have-eq0, else-have-eq0}

pub loop-i-preserved : goal.loop-i-preserved
loop-i-preserved c =
    let kept = c.loop-i.invariant in
    let i = c.loop-i-test.true in
    let pre = c.requires.q_bound in
    elim c.if-have-eq0.branch [
      | then-have-eq0 w ↦ rw (w.release-is, w.pieces-is, w.count-is, w.flag-is, w.touch-is) (cutting_pass kept i (pre.1 _ i) w.if-have-eq0.true w.put-count.ensures)
      | else-have-eq0 w ↦ rw (w.release-is, w.pieces-is, w.count-is, w.flag-is, w.touch-is)
          (cutting_step kept i pre.0 (pre.1 _ i) w.cut_interval-c.ensures w.put-count-else-have-eq0.ensures w.put-count-else-have-eq0-2.ensures
          w.put-count-else-have-eq0-3.ensures)
    ]
