-- `sha1_digest::message::hash` meets its contract. The loop's invariant: `h` is the hash value after the first `i` blocks.
use mathlib.Core.Path.{◌≡◌}
use Rattle.sha1_blocks.specs.Fips180.{pad, H}
use Rattle.sha1_digest.proofs.message.hash.Given as goal

abbrev pub invariant-loop-i : goal.invariant-loop-i
invariant-loop-i l =
    l.h ≡ H (pad l.message) l.i
