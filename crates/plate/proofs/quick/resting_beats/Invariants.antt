use Rattle.toom.specs.Shadow.{marks}
use Rattle.plate.specs.Wounds.{BeatenTimes}
use Rattle.plate.proofs.quick.resting_beats.Given as goal

abbrev pub invariant-loop : goal.invariant-loop
invariant-loop g l =
    BeatenTimes g.C.PartialEq.eq (g.H.Host.meaning l.fn.host) l.fn.shape.planes l.fn.shape.side l.counter (marks l.fn.wounds) l.initial.cells
    (marks l.fn.wounds) l.cells
