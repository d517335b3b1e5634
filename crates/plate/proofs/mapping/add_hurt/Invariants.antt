use Rattle.plate.proofs.Hurts.{AddedBelow}
use Rattle.plate.proofs.mapping.add_hurt.Given as goal

abbrev pub invariant-loop-k : goal.invariant-loop-k
invariant-loop-k g l = AddedBelow g.C.PartialEq.eq l.plane l.line l.initial.counts l.k l.counts
