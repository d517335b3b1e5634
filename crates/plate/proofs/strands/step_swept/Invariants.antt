use Rattle.plate.proofs.SteppedStretches.{Done, StretchStepped}
use Rattle.plate.proofs.strands.step_swept.Given as goal

abbrev pub invariant-loop-column : goal.invariant-loop-column
invariant-loop-column g l =
    StretchStepped (g.H.Host.meaning l.fn.host) l.fn.shape.planes l.fn.shape.side l.fn.stretch (Done l.fn.shape.planes l.column) l.fn.cells l.cells
