use Rattle.std.proofs.Common.{arith}
use Rattle.std.proofs.lemmas.Result.{err_from_is_err_and}
use Rattle.hosts.proofs.Filling.{filled_none, filled_more, filled_first, filled_row, filled_all}
use Rattle.hosts.proofs.machine.file.MachineFile.table.Goals as goal

pub loop-state-init : goal.loop-state-init
loop-state-init c = filled_none c.args.self.now

pub returns-in_err-entry : goal.returns-in_err-entry
returns-in_err-entry c =
    let p = err_from_is_err_and c.from_residual.result c.from_residual.ensures.1 in
    rw (p.1, p.2)
    (filled_first c.args.self.now _ _ _ c.loop-symbol.invariant (omega arith) (omega arith) (omega arith) _ c.in_err-entry.ensures)

pub loop-symbol-preserved : goal.loop-symbol-preserved
loop-symbol-preserved c =
    let good = c.in_ok-entry.ensures in
    filled_more c.args.self.now _ _ _ c.loop-symbol.invariant (omega arith) (omega arith) _ (omega arith) good.0 good.1

pub loop-state-preserved : goal.loop-state-preserved
loop-state-preserved c = filled_row c.args.self.now _ _ _ c.loop-symbol.invariant (omega arith) (omega arith) (omega arith)

pub returns-2 : goal.returns-2
returns-2 c = filled_all c.args.self.now _ _ _ c.loop-symbol.invariant (omega arith) (omega arith) (omega arith) (omega arith)
