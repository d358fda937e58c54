-- `calls::plan` meets its contract: a call is the change that it asks for.
use Rattle.calls.proofs.CallChecks.{planned_called}
use Rattle.calls.proofs.plan.Goals as goal

pub returns-in-Add-clause-planned : goal.returns-in-Add-clause-planned
returns-in-Add-clause-planned c =
    planned_called c.args.before c.args.table.now c.args.call _ c.in-Add.is c.add.ensures.planned

pub returns-in-Remove-clause-planned : goal.returns-in-Remove-clause-planned
returns-in-Remove-clause-planned c =
    planned_called c.args.before c.args.table.now c.args.call _ c.in-Remove.is c.remove.ensures.planned

pub returns-in-Resize-clause-planned : goal.returns-in-Resize-clause-planned
returns-in-Resize-clause-planned c =
    planned_called c.args.before c.args.table.now c.args.call _ c.in-Resize.is c.resize.ensures.planned
