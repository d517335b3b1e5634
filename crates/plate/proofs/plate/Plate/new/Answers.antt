use Rattle.std.proofs.Common.{refl}
use Rattle.plate.specs.History.{new}
use Rattle.plate.proofs.plate.Plate.new.Goals as goal

pub returns : goal.returns
returns g c = record { reached = new c.args.cells.now; cells = refl; same = refl }
