-- `sha1_blocks::steps::schedule` meets its contract. The loop's invariant: the first `t` words of `w` are the block's.
use Rattle.std.proofs.Common.{◌≡◌, ◌<◌, length, ◌∙◌, add-one, arith, length-set, take_all, take-suc, take-suc-set}
use Rattle.sha1_blocks.proofs.Schedule.{extended_more, extended_schedule}
use Rattle.sha1_blocks.proofs.steps.schedule.Goals as goal

pub loop-t-preserved : goal.loop-t-preserved
loop-t-preserved c =
    let turn = c.loop-t in
    let m = c.args.m.now in
    let h : turn.t < length m = omega arith in (
      length-set turn.w turn.t _ ∙ turn.invariant.0,
      rw (add-one, take-suc-set turn.w turn.t _ (omega arith), take-suc m turn.t 0 h, turn.invariant.1),
    )

pub returns : goal.returns
returns c =
    let e : c.loop-t.t ≡ 16 = omega arith in
    let begun = (rw e at c.loop-t.invariant.1) ∙ take_all 16 c.args.m.now (omega arith) in
    let formed = extended_more c.loop-t.w 16 16 c.extend.ensures.words c.extend-2.ensures.words in
    let formed = extended_more c.loop-t.w 32 16 formed c.extend-3.ensures.words in
    extended_more c.loop-t.w 48 16 formed c.extend-4.ensures.words
    ∙ extended_schedule _ c.loop-t.w c.loop-t.invariant.0 begun
