use Rattle.plate.specs.Plates.{members}
use Rattle.reports.proofs.Telling.{reports_tell}
use Rattle.reports.proofs.laws.report_tells.Goals as goal

pub returns : goal.returns
returns g c =
    let met = g.met.C.Kind in
    reports_tell (members g.C.PartialEq.eq g.C.Kind.byte_of g.C.Kind.cell_of) met.reflexive c.always_heals.ensures
