use Rattle.std.proofs.Common.{arith}
use Rattle.plate.proofs.SweptEdges.{edges_voted}
use Rattle.plate.proofs.sweep.vote_edges.Goals as goal

pub returns-then-shape-lt-SHORT : goal.returns-then-shape-lt-SHORT
returns-then-shape-lt-SHORT g c =
    edges_voted g.C.PartialEq.eq c.args.shape.planes c.args.shape.side (omega arith) c.args.cells.now c.vote_place.new.cells c.vote_across.new.cells
    c.vote_place.ensures c.vote_across.ensures

pub returns-else-shape-lt-SHORT : goal.returns-else-shape-lt-SHORT
returns-else-shape-lt-SHORT g c =
    edges_voted g.C.PartialEq.eq c.args.shape.planes c.args.shape.side (omega arith) c.args.cells.now c.vote_place.new.cells c.vote_along.new.cells
    c.vote_place.ensures c.vote_along.ensures
