use Rattle.std.proofs.Common.{arith}
use Rattle.std.proofs.lemmas.Result.{err_from_is_err_and}
use Rattle.runs.proofs.Checked.{asking_next, script_passed, script_refused}
use Rattle.runs.proofs.checks.Bounds.check_script.Goals as goal

pub loop-index-preserved : goal.loop-index-preserved
loop-index-preserved g c =
    asking_next c.loop-index.invariant c.next.new.self c.in-Some.index c.in-Some.record c.in-Some.ensures.steps c.in_ok-check_record.ensures

pub returns-in_err-check_record : goal.returns-in_err-check_record
returns-in_err-check_record g c =
    let p = err_from_is_err_and c.from_residual.result c.from_residual.ensures.1 in
    rw (p.1, p.2)
    (script_refused c.loop-index.invariant c.next.new.self c.in-Some.index c.in-Some.record c.in-Some.ensures.steps _
    c.in_err-check_record.ensures (omega arith) (omega arith))

pub returns : goal.returns
returns g c = script_passed c.loop-index.invariant c.next.new.self c.in-None.ensures.steps.0 (omega arith) (omega arith)
