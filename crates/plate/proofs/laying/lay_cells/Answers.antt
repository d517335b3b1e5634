use Rattle.std.proofs.Common.{length, ◌∙◌}
use Rattle.plate.proofs.Layings.{laid_of}
use Rattle.plate.proofs.laying.lay_cells.Goals as goal

pub returns : goal.returns
returns g c =
    laid_of g.C.Kind.cell_of c.args.shape.planes c.args.shape.side c.args.tape.now (length c.args.tape.now) c.area-area.result c.copies-copies.result
    c.args.cells.now c.paint_blocks.new.cells c.paint_blocks-2.new.cells c.paint_blocks-3.new.cells c.paint_blocks-4.new.cells
    c.requires.long c.area-area.ensures c.copies-copies.ensures
    c.paint_blocks.ensures c.paint_blocks-2.ensures c.paint_blocks-3.ensures c.paint_blocks-4.ensures
    (c.paint_blocks-4.auto.cells ∙ c.paint_blocks-3.auto.cells ∙ c.paint_blocks-2.auto.cells ∙ c.paint_blocks.auto.cells)
