use Rattle.std.proofs.Common.{◌*◌, get_or}
use Rattle.hosts.specs.Ring.{stepped}
use Rattle.plate.specs.Wounds.{strand_at}
use Rattle.plate.proofs.WoundStretches.{stretch_more, stretches_done}
use Rattle.plate.proofs.WrittenPlaces.{steps_stay}
use Rattle.plate.proofs.strands.step_strands.Goals as goal

pub loop-stretch-preserved : goal.loop-stretch-preserved
loop-stretch-preserved g c =
    let n = c.args.shape.planes in
    let side = c.args.shape.side in
    let old = c.args.cells.now in
    let mid = c.loop-stretch.cells in
    let stays = c.loop-stretch.invariant.1.outside in
    stretch_more n side (n * (side * side)) (strand_at n side) (λ k p q d. stepped (g.H.Host.meaning c.args.host.now) n (λ m. get_or old (strand_at n side m p q) d) k) c.args.wounds.now c.requires.side c.loop-stretch.stretch-iterator c.next.new.self
    c.loop-stretch.invariant.0 old mid c.loop-stretch.invariant.1 _ c.in-Some.stretch c.step_stretch.new.cells c.in-Some.ensures.steps
    c.step_stretch.ensures (λ k p q d hk hp hq _. steps_stay (g.H.Host.meaning c.args.host.now) n side old mid stays k p q d hk hp hq)

pub returns : goal.returns
returns g c =
    let n = c.args.shape.planes in
    let side = c.args.shape.side in
    stretches_done n side (n * (side * side)) (strand_at n side) _ c.args.wounds.now c.requires.side c.loop-stretch.stretch-iterator c.next.new.self
    c.loop-stretch.invariant.0 c.args.cells.now c.loop-stretch.cells c.loop-stretch.invariant.1 c.in-None.ensures.steps
