-- `sha1_blocks::constants::k` meets its contract: its tests are those of the definition.
use Rattle.std.proofs.Common.{le-ltb, lt-ltb}
use Rattle.sha1_blocks.specs.Fips180.{K}
use Rattle.sha1_blocks.proofs.constants.k.Goals as goal

pub returns-then-t-lt20 : goal.returns-then-t-lt20
unfolding K
returns-then-t-lt20 c =
    rw (lt-ltb _ 20 c.if-t-lt20.true)

pub returns-then-t-lt40 : goal.returns-then-t-lt40
unfolding K
returns-then-t-lt40 c =
    rw (le-ltb _ 20 c.if-t-lt20.false, lt-ltb _ 40 c.if-t-lt40.true)

pub returns-then-t-lt60 : goal.returns-then-t-lt60
unfolding K
returns-then-t-lt60 c =
    rw (le-ltb _ 20 c.if-t-lt20.false, le-ltb _ 40 c.if-t-lt40.false, lt-ltb _ 60 c.if-t-lt60.true)

pub returns : goal.returns
unfolding K
returns c =
    rw (le-ltb _ 20 c.if-t-lt20.false, le-ltb _ 40 c.if-t-lt40.false, le-ltb _ 60 c.if-t-lt60.false)
