use Rattle.std.proofs.Common.{arith}
use Rattle.toom.specs.Shadow.{marks}
use Rattle.plate.proofs.RestingBeats.{stand_spread, voted_lying}
use Rattle.plate.proofs.WoundBeats.{beaten_for}
use Rattle.plate.proofs.quick.beat_resting.Goals as goal

pub returns : goal.returns
returns g c =
    let n = c.args.shape.planes in
    let side = c.args.shape.side in
    let w = marks c.args.wounds.now in
    let b = marks c.args.beside.now in
    let old = c.args.cells.now in
    let lying = c.spread_line.new.cells in
    λ whole stand.
    beaten_for g.C.PartialEq.eq c.vote_heals.ensures.planes (g.H.Host.meaning c.args.host.now) n side w w c.requires.covers lying
    c.vote_lying.new.cells c.step_line.new.cells c.step_strands.new.cells (omega arith) (omega arith) (omega arith) (omega arith)
    (voted_lying n side w b c.requires.beside old lying c.spread_line.ensures (omega arith) g.C.PartialEq.eq c.vote_lying.new.cells c.vote_lying.ensures)
    c.step_line.ensures c.step_strands.ensures
    whole (stand_spread n side w b c.requires.beside old lying c.spread_line.ensures (omega arith) whole stand)
