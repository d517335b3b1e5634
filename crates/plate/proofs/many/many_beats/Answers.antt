use Rattle.std.proofs.Common.{arith}
use Rattle.plate.proofs.BeatenBy.{left_more}
use Rattle.plate.proofs.many.many_beats.Goals as goal

pub loop-left-preserved-then-done-span : goal.loop-left-preserved-then-done-span
loop-left-preserved-then-done-span g c = (
  omega arith,
  omega arith,
  omega arith,
  left_more g.C.PartialEq.eq (g.H.Host.meaning c.args.host.now) c.args.shape.planes c.args.shape.side c.args.times c.loop-left.left
      c.beats_of_a_look-done.result c.args.cells.now c.loop-left.cells c.beats_of_a_look-done.new.cells c.loop-left.invariant.0
      (omega (arith, c.min-most.ensures, c.beats_of_a_look-done.ensures.most)) c.loop-left.invariant.3 c.beats_of_a_look-done.ensures.beaten,
)

pub loop-left-preserved : goal.loop-left-preserved
loop-left-preserved g c = (
  omega arith,
  omega arith,
  omega arith,
  left_more g.C.PartialEq.eq (g.H.Host.meaning c.args.host.now) c.args.shape.planes c.args.shape.side c.args.times c.loop-left.left
      c.beats_of_a_look-done.result c.args.cells.now c.loop-left.cells c.beats_of_a_look-done.new.cells c.loop-left.invariant.0
      (omega (arith, c.min-most.ensures, c.beats_of_a_look-done.ensures.most)) c.loop-left.invariant.3 c.beats_of_a_look-done.ensures.beaten,
)
