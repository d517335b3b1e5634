use Rattle.plate.specs.Faults.{map_fault}
use Rattle.plate.specs.History.{Map}
use Rattle.plate.specs.Plates.{board, members}
use Rattle.plate.proofs.Going.{goes_on}
use Rattle.plate.proofs.plate.Plate.map.Goals as goal

pub returns : goal.returns
returns g c =
    let k = members g.C.PartialEq.eq g.C.Kind.byte_of g.C.Kind.cell_of in
    let o = c.try_map.ensures in
    record {
      outcome = o;
      heals = goes_on k c.always_heals.ensures map_fault (Map c.args.out.now c.try_map.new.out) c.try_map.result (board c.args.self.now) (board c.args.self.now) o;
    }
