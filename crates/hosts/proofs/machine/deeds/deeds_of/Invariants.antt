use Rattle.hosts.proofs.Deeds.{DoneTo}
use Rattle.hosts.proofs.machine.deeds.deeds_of.Given as goal

abbrev pub invariant-loop-slot : goal.invariant-loop-slot
invariant-loop-slot l = DoneTo l.table l.deeds l.slot
