use Rattle.plate.specs.Faults.{beat_fault}
use Rattle.plate.specs.History.{Beat}
use Rattle.plate.specs.Plates.{board, members}
use Rattle.plate.proofs.Going.{goes_on}
use Rattle.plate.proofs.plate.Plate.beat.Goals as goal

pub returns : goal.returns
returns g c =
    let k = members g.C.PartialEq.eq g.C.Kind.byte_of g.C.Kind.cell_of in
    let o = c.try_beat.ensures.outcome in
    record {
      outcome = o;
      heals = goes_on k c.always_heals.ensures beat_fault (Beat (g.H.Host.meaning c.args.host.now)) c.try_beat.result (board c.args.self.now) (board c.try_beat.new.self) o;
      same = c.try_beat.ensures.same;
    }
