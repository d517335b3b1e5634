use Rattle.std.proofs.Common.{◌+◌, ◌-◌, ◌*◌, arith}
use Rattle.plate.proofs.Sweeps.{swept_copied}
use Rattle.plate.proofs.SweptBeats.{beaten}
use Rattle.plate.proofs.sweep.beat_cells.Goals as goal

pub returns : goal.returns
returns g c =
    let n = c.args.shape.planes in
    let area = c.area-area.ensures in
    let copies = c.copies-voted.ensures in
    let moved =
    swept_copied (2 * c.copies-voted.result + n) (2 * c.copies-voted.result) (2 * c.copies-voted.result + n - 2 * c.copies-voted.result) n
    c.ring_step.new.cells c.copy_within.new.self (omega arith) c.copy_within.ensures.by_index in
    beaten g.C.PartialEq.eq (g.H.Host.meaning c.args.host.now) n c.args.shape.side c.args.cells.now
    c.vote_planes.new.cells c.ring_step.new.cells c.copy_within.new.self c.ring_step-2.new.cells c.vote_planes.ensures
    (rw (copies, area) at c.ring_step.ensures) (rw copies at moved) (rw copies at c.ring_step-2.ensures) (omega arith)
