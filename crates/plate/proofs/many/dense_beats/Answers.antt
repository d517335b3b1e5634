use Rattle.std.proofs.Common.{add-one, sym, subst}
use Rattle.plate.specs.BeatsCall.{CellsBeatenBy}
use Rattle.plate.proofs.many.dense_beats.Goals as goal

pub loop-preserved : goal.loop-preserved
loop-preserved g c =
    subst
    (λ m. CellsBeatenBy g.C.PartialEq.eq (g.H.Host.meaning c.args.host.now) c.args.shape.planes c.args.shape.side m c.args.cells.now
    c.beat_cells.new.cells) (sym (add-one c.loop.counter)) (c.loop.cells, c.loop.invariant, c.beat_cells.ensures)
