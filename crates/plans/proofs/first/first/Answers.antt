-- `plans::first::first` meets its contract: the law of the pool that gets its only device.
use borrow.Author.Rules.{rules}
use Rattle.plans.proofs.FirstDevices.{accepted_only}
use Rattle.plans.proofs.first.first.Goals as goal

pub returns : goal.returns
returns c =
    let a = c.args in record { accepted = accepted_only a.before a.id a.capacity a.next.now c.requires.le_range c.requires.le_id c.requires.ids_len; next_len = search rules }
