use Rattle.plate.specs.Plates.{members}
use Rattle.reports.proofs.Rooms.{report_fits}
use Rattle.reports.proofs.laws.report_fits.Goals as goal

pub returns : goal.returns
returns g c l =
    report_fits (members g.C.PartialEq.eq g.C.Kind.byte_of g.C.Kind.cell_of) l (c.marks_pin.ensures.sides l.shadow).1
