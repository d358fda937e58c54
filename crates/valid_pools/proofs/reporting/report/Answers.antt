-- `valid_pools::reporting::report` meets its contract.
use Rattle.valid_pools.proofs.DeviceAnswers.{reported_of}
use Rattle.valid_pools.proofs.FoundDevices.{measured_all}
use Rattle.valid_pools.proofs.reporting.report.Goals as goal

pub report_of-requires : goal.report_of-requires
report_of-requires c =
    measured_all c.find_in.result c.find_in.ensures

pub returns : goal.returns
returns c =
    rw c.report_of.ensures (reported_of c.find_in.ensures)
