-- `laptop_report` meets its promise.
use Rattle.controller.proofs.LaptopHanding.{report_as}
use Rattle.controller.proofs.laptop_calls.laptop_report.Goals as goal

pub returns : goal.returns
returns c = report_as c.side_from.ensures c.port_from.ensures _ _ _ c.report.ensures
