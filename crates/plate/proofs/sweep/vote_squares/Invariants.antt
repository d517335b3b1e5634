use Rattle.std.proofs.Common.{◌*◌}
use Rattle.plate.specs.Sweep.{Swept, PlanesVotes}
use Rattle.plate.proofs.sweep.vote_squares.Given as goal

abbrev pub invariant-loop-i : goal.invariant-loop-i
invariant-loop-i g l =
    Swept (l.fn.planes * (2 * 2)) (l.i * (2 * 2)) (PlanesVotes g.C.PartialEq.eq l.fn.planes 2 l.initial.cells) l.initial.cells l.cells
