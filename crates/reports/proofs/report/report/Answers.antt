use Rattle.plate.specs.Plates.{board, members}
use Rattle.reports.proofs.Sessions.{report_goes_on}
use Rattle.reports.proofs.report.report.Goals as goal

pub returns : goal.returns
returns g c =
    let k = members g.C.PartialEq.eq g.C.Kind.byte_of g.C.Kind.cell_of in
    let o = c.try_report.ensures in record {
      outcome = o;
      heals = report_goes_on k c.always_heals.ensures (board c.args.plate.now) c.args.out.now c.try_report.new.out c.try_report.result o;
    }
