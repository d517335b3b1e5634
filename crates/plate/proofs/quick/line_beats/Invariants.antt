use Rattle.std.proofs.Common.{Bool}
use Rattle.toom.specs.Torus.{Plane}
use Rattle.plate.specs.Wounds.{BeatenTimes, Clear}
use Rattle.plate.proofs.quick.line_beats.Given as goal

abbrev pub invariant-loop : goal.invariant-loop
invariant-loop g l =
    (wounds : Plane Bool) → Clear l.fn.shape.side wounds
    → BeatenTimes g.C.PartialEq.eq (g.H.Host.meaning l.fn.host) l.fn.shape.planes l.fn.shape.side l.counter wounds l.initial.cells wounds l.cells
