-- `bench::digests::bench_sha1_chain` meets its contract. The loop's invariant: `word` is the word after `i` digests.
use mathlib.Core.Path.{ap, ◌∙◌}
use mathlib.Core.List.{◌++◌}
use native.Mathlib.Numerals.{add-one}
use native.Mathlib.Omega.{arith}
use lib.ListN.{get_or}
use borrow.Author.Rules.{rules}
use Rattle.sha1_blocks.specs.Fips180.{bytes, digest}
use Rattle.bench.specs.Chain.{chain}
use Rattle.bench.proofs.digests.bench_sha1_chain.Goals as goal

pub loop-i-init : goal.loop-i-init
unfolding chain
loop-i-init c =
    search rules

pub loop-i-preserved : goal.loop-i-preserved
unfolding chain
loop-i-preserved c =
    let turn = c.loop-i in
    rw add-one (c.first_word-word.ensures ∙ ap (λ x. get_or (digest (bytes 8 turn.i ++ bytes 4 x)) 0 0) turn.invariant)

pub returns : goal.returns
returns c =
    c.loop-i.invariant ∙ ap chain (omega arith)
