use Rattle.std.proofs.Common.{◌+◌, ◌-◌, ◌*◌, arith}
use Rattle.plate.proofs.LineStep.{line_steps}
use Rattle.plate.proofs.Sweeps.{swept_copied}
use Rattle.plate.proofs.quick.step_line.Goals as goal

pub returns : goal.returns
returns g c =
    let n = c.args.shape.planes in
    let copies = c.copies-line.ensures in
    let moved =
    swept_copied (2 * c.copies-line.result + n) (2 * c.copies-line.result) (2 * c.copies-line.result + n - 2 * c.copies-line.result) n
    c.args.cells.now c.copy_within.new.self (omega arith) c.copy_within.ensures.by_index in
    line_steps (g.H.Host.meaning c.args.host.now) n c.args.shape.side c.args.cells.now c.copy_within.new.self c.step_ring.new.cells
    (rw copies at moved) (rw copies at c.step_ring.ensures)
