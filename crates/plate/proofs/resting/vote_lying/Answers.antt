use Rattle.std.proofs.Common.{true, arith}
use Rattle.toom.specs.Vote.{voted}
use Rattle.plate.specs.Wounds.{seen, strand_at}
use Rattle.plate.proofs.WoundStretches.{first_of, stretch_more, stretches_done}
use Rattle.plate.proofs.WrittenPlaces.{votes_stay}
use Rattle.plate.proofs.resting.vote_lying.Goals as goal

pub loop-stretch-preserved : goal.loop-stretch-preserved
loop-stretch-preserved g c =
    let n = c.args.shape.planes in
    let side = c.args.shape.side in
    let old = c.args.cells.now in
    let mid = c.loop-stretch.cells in
    let stays = c.loop-stretch.invariant.1.outside in
    stretch_more n side 0 (strand_at n side) (λ k p q d. voted g.C.PartialEq.eq side (seen (λ r q. true) old n side d k) p q) c.args.wounds.now c.requires.side c.loop-stretch.stretch-iterator c.next.new.self
    c.loop-stretch.invariant.0 old mid c.loop-stretch.invariant.1 _ c.in-Some.stretch c.vote_lying_stretch.new.cells c.in-Some.ensures.steps
    c.vote_lying_stretch.ensures (λ k p q d hk hp hq _. votes_stay g.C.PartialEq.eq n side (λ r q. true) old mid stays k p q d)

pub returns : goal.returns
returns g c =
    let n = c.args.shape.planes in
    let side = c.args.shape.side in
    stretches_done n side 0 (strand_at n side) _ c.args.wounds.now c.requires.side c.loop-stretch.stretch-iterator c.next.new.self
    c.loop-stretch.invariant.0 c.args.cells.now c.loop-stretch.cells c.loop-stretch.invariant.1 c.in-None.ensures.steps

pub vote_lying_stretch-requires : goal.vote_lying_stretch-requires
vote_lying_stretch-requires g c =
    let first = first_of c.args.wounds.now c.loop-stretch.stretch-iterator c.next.new.self c.loop-stretch.invariant.0 c.in-Some.stretch c.in-Some.ensures.steps in
    record {
      cells = omega arith;
      row = omega (arith, first.within, c.requires.side);
      some = first.some;
      columns = omega (arith, first.wide, c.requires.side);
    }
