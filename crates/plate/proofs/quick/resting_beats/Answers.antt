use Rattle.std.proofs.Common.{◌≡◌, subst, arith}
use Rattle.toom.specs.Shadow.{marks}
use Rattle.plate.specs.Wounds.{BeatenTimes}
use Rattle.plate.proofs.WoundBeats.{times_more, times_none}
use Rattle.plate.proofs.quick.resting_beats.Goals as goal

pub returns-then-is_empty : goal.returns-then-is_empty
returns-then-is_empty g c =
    c.line_beats.ensures (marks c.args.wounds.now)
    (λ r q hr hq. c.is_empty.ensures.0 c.if-is_empty.true r q (omega (arith, c.requires.side)) (omega (arith, c.requires.side)))

pub loop-init : goal.loop-init
loop-init g c =
    times_none g.C.PartialEq.eq (g.H.Host.meaning c.args.host.now) c.args.shape.planes c.args.shape.side (marks c.args.wounds.now) c.args.cells.now

pub loop-preserved : goal.loop-preserved
loop-preserved g c =
    let w = marks c.args.wounds.now in
    times_more g.C.PartialEq.eq (g.H.Host.meaning c.args.host.now) c.args.shape.planes c.args.shape.side c.loop.counter w c.args.cells.now w c.loop.cells
    w c.beat_resting.new.cells c.loop.invariant c.beat_resting.ensures

pub returns : goal.returns
returns g c =
    let w = marks c.args.wounds.now in
    let last : c.loop.counter ≡ c.args.times = omega arith in
    subst
    (λ m. BeatenTimes g.C.PartialEq.eq (g.H.Host.meaning c.args.host.now) c.args.shape.planes c.args.shape.side m w c.args.cells.now w c.loop.cells)
    last c.loop.invariant
