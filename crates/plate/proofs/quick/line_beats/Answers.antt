use Rattle.std.proofs.Common.{◌≡◌, ◌*◌, subst, arith}
use Rattle.std.proofs.lemmas.Bool.{both_ways}
use Rattle.plate.specs.Wounds.{BeatenTimes, strand_at}
use Rattle.plate.proofs.WoundBeats.{beaten_for, clear_stays, times_more, times_none}
use Rattle.plate.proofs.WrittenPlaces.{none_written}
use Rattle.plate.proofs.quick.line_beats.Goals as goal

pub loop-init : goal.loop-init
loop-init g c = λ w clear.
    times_none g.C.PartialEq.eq (g.H.Host.meaning c.args.host.now) c.args.shape.planes c.args.shape.side w c.args.cells.now

pub loop-preserved : goal.loop-preserved
loop-preserved g c = λ w clear.
    let n = c.args.shape.planes in
    let side = c.args.shape.side in
    let equal = g.C.PartialEq.eq in
    let host = g.H.Host.meaning c.args.host.now in
    let cells = c.loop.cells in
    let lined = c.step_line.new.cells in
    times_more equal host n side c.loop.counter w c.args.cells.now w cells w lined (c.loop.invariant w clear)
    (beaten_for equal c.vote_heals.ensures.planes host n side w w (clear_stays side w clear)
    cells cells lined lined (omega arith) (omega arith) (omega arith) (omega arith)
    (none_written n side 0 (strand_at n side) _ cells _ (λ i r q hi hr hq marked. both_ways _ (clear r q hr hq) marked))
    c.step_line.ensures
    (none_written n side (n * (side * side)) (strand_at n side) _ lined _ (λ i r q hi hr hq marked. both_ways _ (clear r q hr hq) marked)))

pub returns : goal.returns
returns g c = λ w clear.
    let last : c.loop.counter ≡ c.args.times = omega arith in
    subst
    (λ m. BeatenTimes g.C.PartialEq.eq (g.H.Host.meaning c.args.host.now) c.args.shape.planes c.args.shape.side m w c.args.cells.now w c.loop.cells)
    last (c.loop.invariant w clear)
