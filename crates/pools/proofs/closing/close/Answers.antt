-- `pools::closing::close` meets its contract: the arrays are those of the state, which is valid.
use Rattle.opened.proofs.OpenPools.{open_few, open_ids, open_capacities, open_intervals, open_points, open_some}
use Rattle.pools.proofs.ClosedPools.{pool_closed}
use Rattle.pools.proofs.closing.close.Goals as goal

pub narrow-requires : goal.narrow-requires
narrow-requires c =
    let h = c.requires in record { n_bound = (open_few h, open_ids h, open_capacities h); ids_len = (h.ids_size, h.capacities_size) }

pub starts_of-requires : goal.starts_of-requires
starts_of-requires c =
    let h = c.requires in
    (open_intervals h, open_points h, open_some h)

pub owners_of-requires : goal.owners_of-requires
owners_of-requires c =
    let h = c.requires in
    (open_intervals h, open_few h, h.labels, open_ids h)

pub returns : goal.returns
returns c =
    pool_closed c.requires _ _ _ _ c.narrow.ensures.ids c.narrow.ensures.capacities c.starts_of.ensures
    c.owners_of.ensures
