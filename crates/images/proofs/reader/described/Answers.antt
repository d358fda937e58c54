-- `images::reader::described` meets its contract: the numbers of the head and the columns of the rows are those of the bytes.
use Rattle.images.proofs.PoolsRead.{described_pool}
use Rattle.images.proofs.reader.described.Goals as goal

pub returns : goal.returns
returns c =
    let intervals = c.interval_rows in
    let devices = c.device_rows in
    described_pool c.args.image.now c.args.n c.args.q c.number-range.result c.number-limit.result
    _ _ _ _ c.requires.n_value.0 c.requires.n_value.1 c.number-range.ensures.0 c.number-limit.ensures.0 devices.ensures.ids
    devices.ensures.capacities intervals.ensures.starts intervals.ensures.owners
