use Rattle.std.proofs.Common.{◌-◌, ◌*◌, ap, arith}
use Rattle.plate.proofs.SweptEdges.{row_voted}
use Rattle.plate.proofs.SweptPlaces.{copy_in}
use Rattle.plate.proofs.sweep.vote_last_row.Goals as goal

pub fill-requires-clause-b : goal.fill-requires-clause-b
fill-requires-clause-b g c =
    let side = c.args.shape.side in
    omega (
      arith,
      ap (λ m. c.args.i * m) c.area.ensures,
      copy_in c.args.shape.planes side c.args.i (side - 1) (side - 1) c.requires.plane (omega arith) (omega arith),
    )

pub returns : goal.returns
returns g c =
    let plane = ap (λ m. c.args.i * m) c.area.ensures in
    row_voted g.C.PartialEq.eq c.args.shape.planes c.args.shape.side (omega arith) c.args.cells.now c.fill.new.cells c.args.i c.requires.plane
    _ _ _ (omega (arith, plane, c.copies.ensures)) plane (omega (arith, plane)) c.fill.ensures
