use Rattle.plate.specs.Plates.{board, members}
use Rattle.plate.proofs.Going.{goes_on_by}
use Rattle.runs.specs.RunCall.{calls_of_run, run_questions}
use Rattle.runs.specs.RunFaults.{run_fault}
use Rattle.runs.proofs.run.run.Goals as goal

pub returns : goal.returns
returns g c =
    let k = members g.C.PartialEq.eq g.C.Kind.byte_of g.C.Kind.cell_of in
    let b = board c.args.plate.now in
    let script = c.args.script.now in
    let beats = c.args.beats in
    let o = c.try_run.ensures.outcome in
    record {
      outcome = o;
      heals =
          goes_on_by k c.always_heals.ensures run_fault (run_questions k.named b beats script)
          (calls_of_run (g.H.Host.meaning c.args.host.now) script beats) c.try_run.result b (board c.try_run.new.plate) o;
      same = c.try_run.ensures.same;
    }
