-- `sha1_digest::message::hash` meets its contract. The loop's invariant: `h` is the hash value after the first `i` blocks.
use mathlib.Core.List.{List}
use mathlib.Core.Path.{◌≡◌, ap, ap₂, ◌∙◌}
use Prim.Native.Nat.{ℕ}
use native.Mathlib.Numerals.{add-one}
use native.Mathlib.Omega.{arith}
use Rattle.sha1_blocks.specs.Fips180.{pad, N, compress, H}
use Rattle.sha1_blocks.proofs.Padding.{length_pad, N-blocks}
use Rattle.sha1_digest.proofs.message.hash.Goals as goal

pub loop-i-init : goal.loop-i-init
unfolding H
loop-i-init c =
    c.new-h.ensures

pub load-requires : goal.load-requires
load-requires c =
    omega (arith, length_pad c.args.message.now)

pub loop-i-preserved : goal.loop-i-preserved
unfolding H
loop-i-preserved c =
    rw add-one (c.compress-h.ensures ∙ ap₂ compress c.loop-i.invariant c.load.ensures)

pub returns : goal.returns
returns c =
    let m : List ℕ = c.args.message.now in
    let e : c.loop-i.i ≡ N m = omega (arith, N-blocks m) in
    c.loop-i.invariant ∙ ap (H (pad m)) e
