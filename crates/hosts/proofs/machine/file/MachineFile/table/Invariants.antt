use Rattle.hosts.proofs.Filling.{FilledTo}
use Rattle.hosts.proofs.machine.file.MachineFile.table.Given as goal

abbrev pub invariant-loop-state : goal.invariant-loop-state
invariant-loop-state l = FilledTo l.self l.table l.state 0

abbrev pub invariant-loop-symbol : goal.invariant-loop-symbol
invariant-loop-symbol l = FilledTo l.self l.table l.state l.symbol
