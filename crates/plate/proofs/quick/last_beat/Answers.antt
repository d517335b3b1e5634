use Rattle.std.proofs.Common.{◌∙◌, inr, arith}
use Rattle.toom.specs.Shadow.{marks}
use Rattle.plate.specs.Wounds.{Clear}
use Rattle.plate.proofs.WoundBeats.{beaten_settled, quiet_beaten, settled}
use Rattle.plate.proofs.quick.last_beat.Goals as goal

pub returns-then-is_empty : goal.returns-then-is_empty
returns-then-is_empty g c =
    let n = c.args.shape.planes in
    let side = c.args.shape.side in
    let w = marks c.args.wounds.now in
    let copies = c.copies-copies.ensures in
    let clear : Clear side w = λ r q hr hq.
    c.is_empty.ensures.0 c.if-is_empty.true r q (omega (arith, c.requires.side)) (omega (arith, c.requires.side)) in
    λ whole stand.
    quiet_beaten g.C.PartialEq.eq c.vote_heals.ensures.planes (g.H.Host.meaning c.args.host.now) n side w clear c.args.cells.now c.step_line.new.cells
    c.write_planes.new.cells c.write_planes-then-is_empty.new.cells whole stand (omega arith) c.step_line.ensures (rw copies at c.write_planes.ensures)
    (rw copies at c.write_planes-then-is_empty.ensures)

pub returns : goal.returns
returns g c =
    let n = c.args.shape.planes in
    let side = c.args.shape.side in
    let w = marks c.args.wounds.now in
    λ whole stand.
    beaten_settled g.C.PartialEq.eq (g.H.Host.meaning c.args.host.now) n side c.settle.new.cells whole c.beat_cells.new.cells
    (settled n side w c.args.cells.now whole stand c.settle.new.cells c.settle.ensures)
    (λ k d h. c.settle.ensures.outside k d (inr (omega arith)) ∙ stand.rest k d h) (omega (arith, stand.long)) c.beat_cells.ensures
