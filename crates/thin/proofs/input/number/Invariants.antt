use Rattle.thin.proofs.Numbers.{Named}
use Rattle.thin.proofs.input.number.Given as goal

abbrev pub invariant-loop-byte : goal.invariant-loop-byte
invariant-loop-byte l = Named l.word l.byte-index l.number
