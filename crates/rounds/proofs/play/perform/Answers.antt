use Rattle.std.proofs.Common.{◌≡◌, true, [], ◌∷◌, length, None, subst, rules}
use Rattle.plate.specs.History.{Lay, Outcome}
use Rattle.plate.specs.Plates.{board, members}
use Rattle.plate.proofs.Standing.{not_both}
use Rattle.runs.specs.RunCall.{calls_of_run}
use Rattle.reports.specs.ReportCall.{report_questions}
use Rattle.rounds.proofs.Performing.{new_bare, report_passes}
use Rattle.rounds.proofs.play.perform.Goals as goal

pub returns-in_err-report : goal.returns-in_err-report
returns-in_err-report g c =
    let k = members g.C.PartialEq.eq g.C.Kind.byte_of g.C.Kind.cell_of in
    let r = c.args.round in
    let calls = calls_of_run (g.H.Host.meaning c.args.host.now) r.script.now r.beats in
    let lay = Lay r.planes r.side r.tape.now in
    let b = board c.run.new.plate in
    let laid = c.in_ok-lay.ensures.heals [] c.new-plate.ensures.reached in
    let heals = (c.in_ok-run.ensures.heals ((lay, true) ∷ []) laid.0).1 in
    absurd
    (not_both (report_questions b (length c.args.out.now)) _
    (report_passes k calls r.planes r.side r.tape.now b heals (length c.args.out.now) c.requires.room) c.in_err-report.ensures.outcome.0)

pub returns : goal.returns
returns g c =
    let k = members g.C.PartialEq.eq g.C.Kind.byte_of g.C.Kind.cell_of in
    let r = c.args.round in
    let fresh : board c.new-plate.result ≡ record { laid = None; cells = c.args.memory.now } =
    λ i. record { laid = new_bare k (board c.new-plate.result) c.new-plate.ensures.reached i; cells = c.new-plate.ensures.cells i } in
    record {
      laid = board c.lay.new.self;
      played = board c.run.new.plate;
      lays = subst (λ b. Outcome k (Lay r.planes r.side r.tape.now) true b (board c.lay.new.self)) fresh c.in_ok-lay.ensures.outcome;
      runs = c.in_ok-run.ensures.outcome.1;
      reports = c.in_ok-report.ensures.outcome.1;
      memory = search rules;
    }
