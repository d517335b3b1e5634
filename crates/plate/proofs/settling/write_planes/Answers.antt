use Rattle.std.proofs.Common.{◌+◌, ◌*◌, ◌∙◌, inr, arith}
use Rattle.plate.proofs.Grids.{block_in}
use Rattle.plate.proofs.SettledPlaces.{blocks_more}
use Rattle.plate.proofs.settling.write_planes.Goals as goal

pub loop-i-preserved : goal.loop-i-preserved
loop-i-preserved g c =
    let area = c.area-area.ensures in
    let i = c.loop-i.i in
    let w = c.args.shape.side * c.args.shape.side in
    let last = block_in c.args.shape.planes w i c.loop-i-test.true in
    blocks_more c.args.base c.args.from i w c.args.cells.now c.loop-i.cells c.paint.new.cells c.cell_at-cell.result (omega (arith, last))
    (λ d. c.cell_at-cell.ensures d ∙ c.loop-i.invariant.outside (c.args.from + i) d (inr (omega (arith, last))))
    c.loop-i.invariant (rw area at c.paint.ensures)
