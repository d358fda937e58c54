-- `bench::digests::bench_sha1_chain` meets its contract. The loop's invariant: `word` is the word after `i` digests.
use mathlib.Core.Path.{◌≡◌}
use Rattle.bench.specs.Chain.{chain}
use Rattle.bench.proofs.digests.bench_sha1_chain.Given as goal

abbrev pub invariant-loop-i : goal.invariant-loop-i
invariant-loop-i l =
    l.word ≡ chain l.i
