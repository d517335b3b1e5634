use Rattle.plate.specs.Plates.{members}
use Rattle.rounds.specs.PlayCall.{entrant}
use Rattle.rounds.proofs.Admitting.{lay_passed, room_passed, run_passed}
use Rattle.rounds.proofs.Playing.{performed, play_heals}
use Rattle.rounds.proofs.play.play.Goals as goal

pub perform-requires : goal.perform-requires
perform-requires g c =
    let k = members g.C.PartialEq.eq g.C.Kind.byte_of g.C.Kind.cell_of in
    let e = entrant g.H.Entry.kind g.H.Entry.questions g.H.Entry.is_in g.H.Host.meaning in
    let round = c.in_ok-round.round in
    let admitted = c.in_ok-round.ensures in
    record {
      lays = lay_passed k e c.args.file.now _ _ round admitted.1 admitted.0;
      runs = run_passed k e c.args.file.now _ _ round admitted.1 admitted.0;
      room = room_passed k e c.args.file.now _ _ round admitted.1 admitted.0;
    }

pub returns : goal.returns
returns g c =
    let k = members g.C.PartialEq.eq g.C.Kind.byte_of g.C.Kind.cell_of in
    let e = entrant g.H.Entry.kind g.H.Entry.questions g.H.Entry.is_in g.H.Host.meaning in
    let admitted = c.in_ok-round.ensures in
    record {
      outcome =
          performed k e c.args.file.now c.args.memory.now c.perform.new.memory c.args.out.now c.perform.new.out c.perform.result
          c.in_ok-round.round c.in_ok-round.host admitted.0 admitted.1 admitted.2 c.perform.ensures;
      heals =
          play_heals k e c.args.file.now c.args.memory.now c.perform.new.memory c.args.out.now c.perform.new.out
          c.always_heals.ensures c.perform.result;
    }
