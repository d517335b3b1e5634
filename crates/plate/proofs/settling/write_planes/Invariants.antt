use Rattle.std.proofs.Common.{◌*◌}
use Rattle.plate.specs.Sweep.{Swept}
use Rattle.plate.specs.Wounds.{BlocksOf}
use Rattle.plate.proofs.settling.write_planes.Given as goal

abbrev pub invariant-loop-i : goal.invariant-loop-i
invariant-loop-i g l =
    let area = l.fn.shape.side * l.fn.shape.side in
    Swept l.fn.base (l.i * area) (BlocksOf l.fn.from l.i area l.initial.cells) l.initial.cells l.cells
