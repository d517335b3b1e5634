use Rattle.std.proofs.Common.{arith}
use Rattle.plate.proofs.SweptRings.{ring_stepped}
use Rattle.plate.proofs.sweep.ring_step.Goals as goal

pub returns : goal.returns
returns g c =
    ring_stepped (g.H.Host.meaning c.args.host.now) c.args.to c.args.from c.args.n c.args.w c.requires.apart
    c.args.cells.now (omega arith) c.fill-2.new.cells c.fill-3.new.cells c.fill-4.new.cells c.fill-2.ensures
    c.fill-3.ensures c.fill-4.ensures
