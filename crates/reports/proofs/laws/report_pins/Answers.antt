use Rattle.plate.specs.Plates.{members}
use Rattle.reports.proofs.Pins.{fault_pins, report_pins}
use Rattle.reports.proofs.laws.report_pins.Goals as goal

pub returns : goal.returns
returns g c = record {
  ends = report_pins (members g.C.PartialEq.eq g.C.Kind.byte_of g.C.Kind.cell_of);
  faults = fault_pins;
}
