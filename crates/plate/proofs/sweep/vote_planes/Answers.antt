use Rattle.std.proofs.Common.{arith}
use Rattle.plate.proofs.SweptEdges.{planes_voted}
use Rattle.plate.proofs.sweep.vote_planes.Goals as goal

pub returns : goal.returns
returns g c =
    planes_voted g.C.PartialEq.eq c.args.shape.planes c.args.shape.side (omega arith) c.args.cells.now c.fill.new.cells c.vote_edges.new.cells
    (rw c.copies-votes.ensures at c.fill.ensures) c.vote_edges.ensures
