use Rattle.toom.specs.Shadow.{marks}
use Rattle.plate.proofs.SettledPlaces.{all_settled}
use Rattle.plate.proofs.settling.settle.Goals as goal

pub returns : goal.returns
returns g c =
    all_settled (marks c.args.wounds.now) c.args.shape.planes c.args.shape.side c.args.cells.now c.write_planes.new.cells c.settle_wounds.new.cells
    (rw c.copies.ensures at c.write_planes.ensures) c.settle_wounds.ensures
