-- `sha1_digest::message::load` meets its contract. The loop's invariant: the first `t` words of `m` are the block's.
use mathlib.Core.Path.{◌≡◌}
use Prim.Native.Nat.{◌*◌}
use lib.ListN.{length, take}
use Rattle.sha1_blocks.specs.Fips180.{pad, words_from}
use Rattle.sha1_digest.proofs.message.load.Given as goal

abbrev pub invariant-loop-t : goal.invariant-loop-t
invariant-loop-t l =
    (length l.m ≡ 16) × (take l.t l.m ≡ words_from (pad l.message) (64 * l.i) l.t)
