use Rattle.std.proofs.Common.{arith}
use Rattle.plate.proofs.SweptEdges.{along_more}
use Rattle.plate.proofs.SweptPlaces.{voted_same}
use Rattle.plate.proofs.sweep.vote_along.Goals as goal

pub loop-i-preserved : goal.loop-i-preserved
loop-i-preserved g c =
    along_more g.C.PartialEq.eq c.args.shape.planes c.args.shape.side (omega arith) c.args.cells.now c.loop-i.cells c.vote_last_column.new.cells
    c.vote_last_row.new.cells c.loop-i.i c.loop-i.invariant c.vote_last_column.ensures c.vote_last_row.ensures

pub returns : goal.returns
returns g c =
    voted_same g.C.PartialEq.eq c.args.shape.planes c.args.shape.side _ _ c.args.cells.now c.loop-i.cells c.loop-i.invariant
    (λ i r q hi hr hq a. a.1) λ i r q hi hr hq b. (omega arith, b)
