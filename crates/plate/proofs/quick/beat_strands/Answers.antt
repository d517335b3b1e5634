use Rattle.std.proofs.Common.{arith}
use Rattle.toom.specs.Shadow.{marks}
use Rattle.plate.proofs.WoundBeats.{beaten_for}
use Rattle.plate.proofs.quick.beat_strands.Goals as goal

pub returns : goal.returns
returns g c =
    beaten_for g.C.PartialEq.eq c.vote_heals.ensures.planes (g.H.Host.meaning c.args.host.now) c.args.shape.planes c.args.shape.side
    (marks c.args.wounds.now) (marks c.args.later.now) c.requires.covers
    c.args.cells.now c.vote_strands.new.cells c.step_line.new.cells c.step_strands.new.cells (omega arith) (omega arith) (omega arith) (omega arith)
    c.vote_strands.ensures c.step_line.ensures c.step_strands.ensures
