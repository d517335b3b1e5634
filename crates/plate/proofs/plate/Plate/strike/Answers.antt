use Rattle.plate.specs.Faults.{strike_fault}
use Rattle.plate.specs.History.{Strike}
use Rattle.plate.specs.Plates.{board, members}
use Rattle.plate.proofs.Going.{goes_on}
use Rattle.plate.proofs.plate.Plate.strike.Goals as goal

pub returns : goal.returns
returns g c =
    let k = members g.C.PartialEq.eq g.C.Kind.byte_of g.C.Kind.cell_of in
    let o = c.try_strike.ensures.outcome in
    record {
      outcome = o;
      heals = goes_on k c.always_heals.ensures strike_fault (Strike c.args.strike.plane c.args.strike.row c.args.strike.column c.args.strike.byte) c.try_strike.result (board c.args.self.now) (board c.try_strike.new.self) o;
      same = c.try_strike.ensures.same;
    }
