use Rattle.std.proofs.Common.{get_or}
use Rattle.plate.specs.Layout.{copy_at}
use Rattle.plate.specs.Wounds.{kept_at}
use Rattle.plate.proofs.SettledPlaces.{kept_stays}
use Rattle.plate.proofs.WoundStretches.{stretch_more, stretches_done}
use Rattle.plate.proofs.settling.settle_wounds.Goals as goal

pub loop-stretch-preserved : goal.loop-stretch-preserved
loop-stretch-preserved g c =
    let n = c.args.shape.planes in
    let side = c.args.shape.side in
    let old = c.args.cells.now in
    let mid = c.loop-stretch.cells in
    stretch_more n side 0 (copy_at side) (λ k p q d. get_or old (kept_at n side k p q) d) c.args.wounds.now c.requires.side c.loop-stretch.stretch-iterator c.next.new.self
    c.loop-stretch.invariant.0 old mid c.loop-stretch.invariant.1 _ c.in-Some.stretch c.settle_stretch.new.cells c.in-Some.ensures.steps
    c.settle_stretch.ensures (λ k p q d hk hp hq _. kept_stays n side old mid c.loop-stretch.invariant.1.outside k p q d)

pub returns : goal.returns
returns g c =
    let n = c.args.shape.planes in
    let side = c.args.shape.side in
    stretches_done n side 0 (copy_at side) _ c.args.wounds.now c.requires.side c.loop-stretch.stretch-iterator c.next.new.self
    c.loop-stretch.invariant.0 c.args.cells.now c.loop-stretch.cells c.loop-stretch.invariant.1 c.in-None.ensures.steps
