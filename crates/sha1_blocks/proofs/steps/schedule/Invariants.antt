-- `sha1_blocks::steps::schedule` meets its contract. The loop's invariant: the first `t` words of `w` are the block's.
use Rattle.std.proofs.Common.{◌≡◌, length, take}
use Rattle.sha1_blocks.proofs.steps.schedule.Given as goal

abbrev pub invariant-loop-t : goal.invariant-loop-t
invariant-loop-t l =
    (length l.w ≡ 80) × (take l.t l.w ≡ take l.t l.m)
