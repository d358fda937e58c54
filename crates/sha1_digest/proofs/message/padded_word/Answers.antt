-- `sha1_digest::message::padded_word` meets its contract. That the places fit a `usize` follows from the padded message's length.
use mathlib.Core.Path.{sym, ◌∙◌}
use native.Mathlib.Omega.{arith}
use Rattle.sha1_blocks.proofs.Padding.{length_pad, word_pad}
use Rattle.sha1_digest.proofs.message.padded_word.Goals as goal

pub overflow_add-at : goal.overflow_add-at
overflow_add-at c =
    omega (arith, length_pad c.args.message.now)

pub returns-then-at-message : goal.returns-then-at-message
returns-then-at-message c =
    c.from_be_bytes.ensures ∙ sym (word_pad c.args.message.now c.args.at (omega arith))

pub overflow_add-at-2 : goal.overflow_add-at-2
overflow_add-at-2 c =
    omega (arith, length_pad c.args.message.now)

pub overflow_add-at-3 : goal.overflow_add-at-3
overflow_add-at-3 c =
    omega (arith, length_pad c.args.message.now)

pub overflow_add-at-4 : goal.overflow_add-at-4
overflow_add-at-4 c =
    omega (arith, length_pad c.args.message.now)
