use Rattle.plate.specs.Faults.{lay_fault}
use Rattle.plate.specs.History.{Lay}
use Rattle.plate.specs.Plates.{board, members}
use Rattle.plate.proofs.Going.{goes_on}
use Rattle.plate.proofs.plate.Plate.lay.Goals as goal

pub returns : goal.returns
returns g c =
    let k = members g.C.PartialEq.eq g.C.Kind.byte_of g.C.Kind.cell_of in
    let o = c.try_lay.ensures.outcome in
    record {
      outcome = o;
      heals = goes_on k c.always_heals.ensures lay_fault (Lay c.args.planes c.args.side c.args.tape.now) c.try_lay.result (board c.args.self.now) (board c.try_lay.new.self) o;
      same = c.try_lay.ensures.same;
    }
