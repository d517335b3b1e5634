use Rattle.runs.proofs.Checked.{Asking}
use Rattle.runs.proofs.checks.Bounds.check_script.Given as goal

abbrev pub invariant-loop-index : goal.invariant-loop-index
invariant-loop-index g l = Asking g.C.Kind.cell_of l.self.planes l.self.side l.self.beats l.script l.index-iterator l.before
