use Rattle.std.proofs.Common.{◌-◌, ◌≤◌}
use Rattle.plate.specs.BeatsCall.{CellsBeatenBy}
use Rattle.plate.proofs.many.many_beats.Given as goal

abbrev pub invariant-loop-left : goal.invariant-loop-left
invariant-loop-left g l =
    (l.left ≤ l.fn.times) × (1 ≤ l.span) × (l.span ≤ 1024)
    × CellsBeatenBy g.C.PartialEq.eq (g.H.Host.meaning l.host) l.fn.shape.planes l.fn.shape.side (l.fn.times - l.left) l.initial.cells l.cells

abbrev pub decreases-loop-left : goal.decreases-loop-left
decreases-loop-left g l = l.left
