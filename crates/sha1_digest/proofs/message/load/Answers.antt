-- `sha1_digest::message::load` meets its contract. The loop's invariant: the first `t` words of `m` are the block's.
use mathlib.Core.Path.{◌≡◌, sym, ◌∙◌}
use native.Mathlib.Numerals.{add-one}
use native.Mathlib.Omega.{arith}
use lib.ListN.{length-set}
use lib.Seq.{take_all, take-suc-set}
use Rattle.sha1_blocks.specs.Fips180.{block}
use Rattle.sha1_digest.proofs.Blocks.{words_from_suc}
use Rattle.sha1_blocks.proofs.Padding.{length_pad}
use Rattle.sha1_digest.proofs.message.load.Goals as goal

pub overflow_mul-i : goal.overflow_mul-i
overflow_mul-i c =
    omega (arith, length_pad c.args.message.now)

pub overflow_add-i : goal.overflow_add-i
overflow_add-i c =
    omega (arith, length_pad c.args.message.now)

pub loop-t-preserved : goal.loop-t-preserved
loop-t-preserved c =
    let pass = c.loop-t in (
      length-set pass.m pass.t _ ∙ pass.invariant.0,
      rw (add-one, take-suc-set pass.m pass.t c.padded_word.result (omega arith), words_from_suc, pass.invariant.1, c.padded_word.ensures),
    )

pub returns : goal.returns
unfolding block
returns c =
    let pass = c.loop-t in
    let e : pass.t ≡ 16 = omega arith in
    sym (take_all 16 pass.m (omega arith)) ∙ (rw e at pass.invariant.1)
