-- `sha1_blocks::steps::compress` meets its contract, from what each step ensures.
use Rattle.sha1_blocks.specs.Fips180.{compress}
use Rattle.sha1_blocks.proofs.steps.compress.Goals as goal

pub returns : goal.returns
unfolding compress
returns c =
    cc
