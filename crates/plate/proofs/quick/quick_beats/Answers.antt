use Rattle.std.proofs.Common.{◌≡◌, ◌+◌, ◌-◌, ap, ◌∙◌, subst, suc, arith}
use Rattle.toom.specs.Shadow.{marks}
use Rattle.plate.specs.BeatsCall.{CellsBeatenBy}
use Rattle.plate.specs.Wounds.{BeatenTo}
use Rattle.plate.proofs.WoundBeats.{covers_vote, stand_gathered, to_more, to_starts}
use Rattle.plate.proofs.quick.quick_beats.Goals as goal

pub loop-left-init : goal.loop-left-init
loop-left-init g c =
    let n = c.args.shape.planes in
    let side = c.args.shape.side in
    let w = marks c.args.wounds in
    let none : 0 ≡ c.args.most - 1 - (c.args.most - 1) = omega arith in (
      omega arith,
      c.requires.side,
      subst (λ m. BeatenTo g.C.PartialEq.eq (g.H.Host.meaning c.args.host.now) n side m c.args.cells.now w c.gather.new.cells) none
          (to_starts g.C.PartialEq.eq (g.H.Host.meaning c.args.host.now) n side c.args.cells.now w c.gather.new.cells
          (stand_gathered n side w c.args.cells.now c.gather.new.cells c.requires.within c.gather.ensures (omega arith))),
    )

pub resting_beats-requires : goal.resting_beats-requires
resting_beats-requires g c =
    let side = c.args.shape.side in
    let w = c.loop-left.wounds in
    let same = c.eq.ensures.decides.0 c.if-eq.true in
    record {
      cells = omega arith;
      side = c.loop-left.invariant.1;
      covers = λ r q hr hq out.
          covers_vote side w c.vote.new.self c.loop-left.invariant.1 c.vote.ensures r q hr hq (ap (λ s. marks s r q) same ∙ out);
    }

pub beat_strands-requires : goal.beat_strands-requires
beat_strands-requires g c =
    record {
      cells = omega arith;
      side = c.loop-left.invariant.1;
      later = c.vote.ensures.sides ∙ c.loop-left.invariant.1;
      covers = covers_vote c.args.shape.side c.loop-left.wounds c.vote.new.self c.loop-left.invariant.1 c.vote.ensures;
    }

pub loop-left-preserved-then-eq : goal.loop-left-preserved-then-eq
loop-left-preserved-then-eq g c =
    let n = c.args.shape.planes in
    let side = c.args.shape.side in
    let left = c.loop-left.left in
    let w = marks c.loop-left.wounds in
    let sum : c.args.most - 1 - left + left ≡ c.args.most - 1 - 0 = omega (arith, c.loop-left.invariant.0) in (
      omega arith,
      c.loop-left.invariant.1,
      subst (λ m. BeatenTo g.C.PartialEq.eq (g.H.Host.meaning c.args.host.now) n side m c.args.cells.now w c.resting_beats.new.cells) sum
          (c.resting_beats.ensures (c.args.most - 1 - left) c.args.cells.now c.loop-left.invariant.2),
    )

pub loop-left-preserved : goal.loop-left-preserved
loop-left-preserved g c =
    let n = c.args.shape.planes in
    let side = c.args.shape.side in
    let left = c.loop-left.left in
    let some = c.loop-left-test.true in
    let sum : c.args.most - 1 - left + 1 ≡ c.args.most - 1 - (left - 1) = omega (arith, c.loop-left.invariant.0) in (
      omega (arith, c.loop-left.invariant.0),
      c.vote.ensures.sides ∙ c.loop-left.invariant.1,
      subst
          (λ m. BeatenTo g.C.PartialEq.eq (g.H.Host.meaning c.args.host.now) n side m c.args.cells.now (marks c.vote.new.self) c.beat_strands.new.cells)
          sum
          (to_more g.C.PartialEq.eq (g.H.Host.meaning c.args.host.now) n side (c.args.most - 1 - left) c.args.cells.now (marks c.loop-left.wounds)
          c.loop-left.cells (marks c.vote.new.self) c.beat_strands.new.cells c.loop-left.invariant.2 c.beat_strands.ensures),
    )

pub returns-clause-beaten : goal.returns-clause-beaten
returns-clause-beaten g c =
    let n = c.args.shape.planes in
    let side = c.args.shape.side in
    let to = c.loop-left.invariant.2 in
    let last : suc (c.args.most - 1 - c.loop-left.left) ≡ c.args.most - c.loop-left.left = omega (arith, c.loop-left.invariant.0) in
    subst (λ m. CellsBeatenBy g.C.PartialEq.eq (g.H.Host.meaning c.args.host.now) n side m c.args.cells.now c.last_beat.new.cells) last
    (to.whole, to.beaten, c.last_beat.ensures to.whole to.stand)
