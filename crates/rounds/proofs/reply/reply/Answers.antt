use Rattle.std.proofs.Common.{Ok, Err, refl, subst}
use Rattle.plate.specs.Plates.{members}
use Rattle.rounds.specs.PlayCall.{entrant}
use Rattle.rounds.specs.RefusedCall.{RefusedAnswers}
use Rattle.rounds.specs.ReplyCall.{Replies}
use Rattle.rounds.proofs.Within.{replied_within}
use Rattle.rounds.proofs.reply.reply.Goals as goal

pub returns-in-Ok : goal.returns-in-Ok
returns-in-Ok g c =
    let k = members g.C.PartialEq.eq g.C.Kind.byte_of g.C.Kind.cell_of in
    let e = entrant g.H.Entry.kind g.H.Entry.questions g.H.Entry.is_in g.H.Host.meaning in
    let replies : Replies k e c.args.file.now (Ok c.in-Ok.len) c.args.memory.now c.play.new.memory c.args.out.now c.play.new.out =
    record { answer = Ok c.in-Ok.len; written = c.play.new.out; plays = c.in-Ok.ensures.outcome; tells = (refl, refl) } in
    record { outcome = replies; within = replied_within replies }

pub returns-in-Err : goal.returns-in-Err
returns-in-Err g c =
    let k = members g.C.PartialEq.eq g.C.Kind.byte_of g.C.Kind.cell_of in
    let e = entrant g.H.Entry.kind g.H.Entry.questions g.H.Entry.is_in g.H.Host.meaning in
    let line = subst (λ refusal. RefusedAnswers refusal c.refused.result c.play.new.out c.refused.new.out) c.from.ensures c.refused.ensures in
    let replies : Replies k e c.args.file.now c.refused.result c.args.memory.now c.play.new.memory c.args.out.now c.refused.new.out =
    record { answer = Err c.in-Err.fault; written = c.play.new.out; plays = c.in-Err.ensures.outcome; tells = line } in
    record { outcome = replies; within = replied_within replies }
