use Rattle.std.proofs.Common.{◌*◌, inr, arith}
use Rattle.plate.specs.BeatCall.{line}
use Rattle.plate.specs.Layout.{line_at}
use Rattle.plate.specs.Wounds.{strand_at}
use Rattle.plate.proofs.WoundStretches.{stretch_more, stretches_done}
use Rattle.plate.proofs.resting.spread_line.Goals as goal

pub loop-stretch-preserved : goal.loop-stretch-preserved
loop-stretch-preserved g c =
    let n = c.args.shape.planes in
    let side = c.args.shape.side in
    let old = c.args.cells.now in
    let mid = c.loop-stretch.cells in
    let stays = c.loop-stretch.invariant.1.outside in
    stretch_more n side (n * (side * side)) (strand_at n side) (λ k p q d. line old n side d k) c.args.places.now c.requires.side c.loop-stretch.stretch-iterator c.next.new.self
    c.loop-stretch.invariant.0 old mid c.loop-stretch.invariant.1 _ c.in-Some.stretch c.spread_stretch.new.cells c.in-Some.ensures.steps
    c.spread_stretch.ensures (λ k p q d hk hp hq _. stays (line_at n side k) d (inr (omega arith)))

pub returns : goal.returns
returns g c =
    let n = c.args.shape.planes in
    let side = c.args.shape.side in
    stretches_done n side (n * (side * side)) (strand_at n side) _ c.args.places.now c.requires.side c.loop-stretch.stretch-iterator c.next.new.self
    c.loop-stretch.invariant.0 c.args.cells.now c.loop-stretch.cells c.loop-stretch.invariant.1 c.in-None.ensures.steps
