use Rattle.plate.specs.Plates.{members}
use Rattle.reports.proofs.Sessions.{session_heals}
use Rattle.reports.proofs.laws.session_heals.Goals as goal

pub returns : goal.returns
returns g c =
    session_heals (members g.C.PartialEq.eq g.C.Kind.byte_of g.C.Kind.cell_of) c.always_heals.ensures
