use Rattle.std.proofs.Common.{◌≡◌, None, subst, arith}
use Rattle.std.proofs.lemmas.Result.{err_from_is_err_and}
use Rattle.plate.specs.Plates.{members}
use Rattle.rounds.specs.PlayCall.{entrant}
use Rattle.rounds.specs.RoundFile.{round_questions}
use Rattle.rounds.proofs.Admitting.{lay_refused}
use Rattle.rounds.proofs.play.admit.Goals as goal

pub returns-in_err-check_lay : goal.returns-in_err-check_lay
returns-in_err-check_lay g c =
    let k = members g.C.PartialEq.eq g.C.Kind.byte_of g.C.Kind.cell_of in
    let e = entrant g.H.Entry.kind g.H.Entry.questions g.H.Entry.is_in g.H.Host.meaning in
    let file = c.args.file.now in
    let read = c.in_ok-round.ensures in
    let round : round_questions g.H.Entry.kind file ≡ None = subst (λ i. round_questions i file ≡ None) c.kind.ensures read.0 in
    let host : g.H.Entry.questions _ ≡ None = subst (λ b. g.H.Entry.questions b ≡ None) read.1.host c.in_ok-host.ensures.0 in
    let p = err_from_is_err_and c.from_residual-in_err-check_lay.result c.from_residual-in_err-check_lay.ensures.1 in
    rw (p.1, p.2)
    (lay_refused k e file c.args.memory c.args.room c.in_ok-round.round read.1 round (omega arith) host _
    c.in_err-check_lay.ensures)
