use Rattle.std.proofs.Common.{length, refl}
use Rattle.plate.proofs.Accepted.{lay_room, lay_long, lay_names}
use Rattle.plate.proofs.plate.Plate.try_lay.Goals as goal

pub lay_cells-requires : goal.lay_cells-requires
lay_cells-requires g c =
    let k = g.C.Kind.cell_of in
    let shape = c.shape.ensures in
    let n = c.args.planes in
    let tape = c.args.tape.now in
    let memory = length c.args.self.now.cells.now in
    let good = c.in_ok-shadow.ensures.0 in
    rw (shape.planes, shape.side, c.in_ok-shadow.ensures.1.sides)
    (
    record {
      within = lay_room k n c.args.side tape memory good;
      long = lay_long k n c.args.side tape memory good;
      named = lay_names k n c.args.side tape memory good;
    }
    )

pub returns : goal.returns
returns g c =
    let checked = c.in_ok-shadow.ensures in
    record {
      outcome = (
        checked.0,
        record { kept = _; stands = refl; planes = refl; age = refl; shadow = checked.1; cells = rw (c.shape.ensures.planes, c.shape.ensures.side, checked.1.sides) at c.lay_cells.ensures },
      );
      same = refl;
    }
