use Rattle.plate.proofs.ShortRings.{single_cells}
use Rattle.plate.proofs.sweep.step_ring.Goals as goal

pub returns-else-n-lt-SHORT : goal.returns-else-n-lt-SHORT
returns-else-n-lt-SHORT g c =
    single_cells (g.H.Host.meaning c.args.host.now) c.args.to c.args.from c.args.n c.args.cells.now c.ring_step.new.cells c.ring_step.ensures
