-- `sha1_digest::message::padded_byte` meets its contract: each answer is the law of `pad` at that kind of place.
use mathlib.Core.List.{List}
use mathlib.Core.Path.{◌≡◌, sym, ap, ◌∙◌}
use Prim.Native.Nat.{ℕ, ◌-◌, ◌*◌, ◌/◌, ◌<◌}
use native.Mathlib.Omega.{arith}
use lib.ListN.{length, get_or}
use Rattle.std.specs.Int.{w64, to_be_bytes}
use Rattle.sha1_blocks.specs.Fips180.{bytes}
use Rattle.sha1_blocks.proofs.Padding.{get_d_bytes, length_pad, get_d_pad_message, get_d_pad_mark, get_d_pad_zero, get_d_pad_field}
use Rattle.sha1_digest.proofs.message.padded_byte.Goals as goal

eight_bytes : (x : ℕ) → to_be_bytes w64 x ≡ bytes 8 x
eight_bytes x = let e : x / 1 ≡ x = omega arith in rw e

pub returns-then-at-n : goal.returns-then-at-n
returns-then-at-n c =
    sym (get_d_pad_message c.args.message.now c.args.at (omega arith))

pub returns-then-at-n-2 : goal.returns-then-at-n-2
returns-then-at-n-2 c =
    sym (rw c.if-at-n-2.true (get_d_pad_mark c.args.message.now))

pub returns-then-at-field : goal.returns-then-at-field
returns-then-at-field c =
    let m : List ℕ = c.args.message.now in
    sym (get_d_pad_zero m c.args.at (omega (arith, c.if-at-n-2.false)) (omega (arith, length_pad m)))

pub bounds-to_be_bytes-at : goal.bounds-to_be_bytes-at
bounds-to_be_bytes-at c =
    omega (arith, length_pad c.args.message.now)

pub returns : goal.returns
returns c =
    let m : List ℕ = c.args.message.now in
    let bits : ℕ = 8 * length m in
    let j : ℕ = c.args.at - (64 * c.blocks-2.result - 8) in
    let inside : j < 8 = omega (arith, length_pad m) in
    ap (λ l. get_or l j 0) (c.to_be_bytes.ensures ∙ eight_bytes bits)
    ∙ get_d_bytes 8 bits j inside
    ∙ sym (get_d_pad_field m c.args.at (7 - j) (omega (arith, length_pad m)) (omega arith))
