-- `sha1_digest::first_word` meets its contract: the words that it stores are the one block of the padded twelve bytes.
use mathlib.Core.Path.{refl, sym, ap, ap₂, ◌∙◌}
use native.Mathlib.Omega.{arith}
use lib.ListN.{get_or}
use Rattle.sha1_blocks.specs.Fips180.{compress}
use Rattle.sha1_blocks.specs.declared.Hash.{Hash}
use Rattle.sha1_digest.proofs.TwelveBytes.{digest_twelve}
use Rattle.sha1_digest.proofs.first_word.Goals as goal

pub returns : goal.returns
returns c =
    let args = c.args in
    ap (λ (h : Hash). h.h0) (c.compress-h.ensures ∙ ap₂ compress c.new.ensures refl)
    ∙ sym (ap (λ l. get_or l 0 0) (digest_twelve args.high args.low (omega arith) (omega arith)))
