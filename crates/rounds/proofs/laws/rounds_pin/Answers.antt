use Rattle.plate.specs.Plates.{members}
use Rattle.rounds.specs.PlayCall.{entrant}
use Rattle.rounds.proofs.FileKinds.{file_kinds_pin}
use Rattle.rounds.proofs.PlayPins.{play_faults_pin, play_pins, refused_pins, reply_pins}
use Rattle.rounds.proofs.Words.{words_pin}
use Rattle.rounds.proofs.laws.rounds_pin.Goals as goal

pub returns : goal.returns
returns g c =
    let k = members g.C.PartialEq.eq g.C.Kind.byte_of g.C.Kind.cell_of in
    let e = entrant g.H.Entry.kind g.H.Entry.questions g.H.Entry.is_in g.H.Host.meaning in
    let ends = c.outcomes_pin.ensures.ends in
    record {
      play = play_pins k ends e g.met.H.Entry.once;
      faults = play_faults_pin;
      reply = reply_pins k ends e g.met.H.Entry.once;
      refused = refused_pins;
      kinds = file_kinds_pin;
      words = words_pin;
    }
