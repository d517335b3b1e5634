use Rattle.plate.specs.Faults.{shadow_fault}
use Rattle.plate.specs.History.{Show}
use Rattle.plate.specs.Plates.{board, members}
use Rattle.plate.proofs.Going.{goes_on}
use Rattle.plate.proofs.plate.Plate.shadow.Goals as goal

pub returns : goal.returns
returns g c =
    let k = members g.C.PartialEq.eq g.C.Kind.byte_of g.C.Kind.cell_of in
    let o = c.try_shadow.ensures in
    record {
      outcome = o;
      heals = goes_on k c.always_heals.ensures shadow_fault (Show c.args.out.now c.try_shadow.new.out) c.try_shadow.result (board c.args.self.now) (board c.args.self.now) o;
    }
