use Rattle.plate.specs.BeatsCall.{beats_questions}
use Rattle.plate.specs.Faults.{beat_fault}
use Rattle.plate.specs.Leads.{beats_alone}
use Rattle.plate.specs.Plates.{board, members}
use Rattle.plate.proofs.Going.{goes_on_by}
use Rattle.plate.proofs.plate.Plate.beats.Goals as goal

pub returns : goal.returns
returns g c =
    let k = members g.C.PartialEq.eq g.C.Kind.byte_of g.C.Kind.cell_of in
    let b = board c.args.self.now in
    let m = c.args.times in
    let o = c.try_beats.ensures.outcome in
    record {
      outcome = o;
      heals =
          goes_on_by k c.always_heals.ensures beat_fault (beats_questions b m) (beats_alone (g.H.Host.meaning c.args.host.now) m)
          c.try_beats.result b (board c.try_beats.new.self) o;
      same = c.try_beats.ensures.same;
    }
