use Rattle.plate.specs.Faults.{read_fault}
use Rattle.plate.specs.History.{Read}
use Rattle.plate.specs.Plates.{board, members}
use Rattle.plate.proofs.Going.{goes_on}
use Rattle.plate.proofs.plate.Plate.read.Goals as goal

pub returns : goal.returns
returns g c =
    let k = members g.C.PartialEq.eq g.C.Kind.byte_of g.C.Kind.cell_of in
    let o = c.try_read.ensures in
    record {
      outcome = o;
      heals = goes_on k c.always_heals.ensures read_fault (Read c.args.out.now c.try_read.new.out) c.try_read.result (board c.args.self.now) (board c.args.self.now) o;
    }
