-- `image_changes::change` meets its contract.
use Rattle.plans.proofs.Planning.{planned_accepted, planned_declined}
use Rattle.image_changes.proofs.MovedLists.{change_room, change_refused, change_valid, change_unfit, change_done}
use Rattle.image_changes.proofs.change.Goals as goal

pub returns-in-Err : goal.returns-in-Err
returns-in-Err c =
    rw c.from.ensures
    (change_refused c.requires.0 _ _ (planned_declined c.in-Err.ensures.planned) _ c.args.answer.now c.put.ensures)

pub close-pool-requires : goal.close-pool-requires
close-pool-requires c =
    (planned_accepted c.in-Ok.ensures.planned).opened

pub store-requires : goal.store-requires
store-requires c =
    change_valid c.requires.0 _ c.args.list.now (planned_accepted c.in-Ok.ensures.planned) c.close-pool.ensures

pub returns-in_default : goal.returns-in_default
returns-in_default c =
    rw c.from-in_default.ensures
    (change_unfit c.requires.0 _ _ (planned_accepted c.in-Ok.ensures.planned) c.close-pool.ensures _ c.in_default.ensures.buffer c.args.answer.now
    c.in_default.ensures.answer c.put-in_default.ensures)

pub write_moves-requires : goal.write_moves-requires
write_moves-requires c =
    let made = planned_accepted c.in-Ok.ensures.planned in
    (made.most, made.points, change_room c.requires.0 _ c.args.list.now made)

pub returns : goal.returns
returns c =
    change_done c.requires.0 _ _ (planned_accepted c.in-Ok.ensures.planned) c.close-pool.ensures _ c.in-Ok-store.ensures.buffer c.args.answer.now
    c.in-Ok-store.ensures.answer c.write_moves.ensures c.put-2.ensures
