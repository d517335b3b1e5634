use Rattle.std.proofs.Common.{◌+◌}
use Rattle.thin.specs.Lines.{lines_left}
use Rattle.thin.specs.Words.{lines}
use Rattle.thin.proofs.Readings.{ReadTo}
use Rattle.thin.proofs.input.read_shadow.Given as goal

abbrev pub invariant-loop-index : goal.invariant-loop-index
invariant-loop-index l = ReadTo (lines l.text) l.shadow (l.index-iterator.count + 1) (lines_left l.index-iterator.iter)
