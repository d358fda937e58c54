-- `sha1_blocks::functions::f` meets its contract: its tests are those of the definition.
use Rattle.std.proofs.Common.{le-ltb, lt-ltb}
use Rattle.sha1_blocks.specs.Fips180.{f}
use Rattle.sha1_blocks.proofs.functions.f.Goals as goal

pub returns-then-t-lt20 : goal.returns-then-t-lt20
unfolding f
returns-then-t-lt20 c =
    rw (lt-ltb _ 20 c.if-t-lt20.true) c.ch.ensures

pub returns-then-t-lt40 : goal.returns-then-t-lt40
unfolding f
returns-then-t-lt40 c =
    rw (le-ltb _ 20 c.if-t-lt20.false, lt-ltb _ 40 c.if-t-lt40.true) c.parity.ensures

pub returns-then-t-lt60 : goal.returns-then-t-lt60
unfolding f
returns-then-t-lt60 c =
    rw (le-ltb _ 20 c.if-t-lt20.false, le-ltb _ 40 c.if-t-lt40.false, lt-ltb _ 60 c.if-t-lt60.true) c.maj.ensures

pub returns : goal.returns
unfolding f
returns c =
    rw (le-ltb _ 20 c.if-t-lt20.false, le-ltb _ 40 c.if-t-lt40.false, le-ltb _ 60 c.if-t-lt60.false) c.parity-2.ensures
