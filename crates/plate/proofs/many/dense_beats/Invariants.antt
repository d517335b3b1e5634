use Rattle.plate.specs.BeatsCall.{CellsBeatenBy}
use Rattle.plate.proofs.many.dense_beats.Given as goal

abbrev pub invariant-loop : goal.invariant-loop
invariant-loop g l =
    CellsBeatenBy g.C.PartialEq.eq (g.H.Host.meaning l.host) l.fn.shape.planes l.fn.shape.side l.counter l.initial.cells l.cells
