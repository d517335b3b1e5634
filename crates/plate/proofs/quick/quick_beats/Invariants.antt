use Rattle.std.proofs.Common.{◌≡◌, ◌-◌, ◌<◌}
use Rattle.toom.specs.Shadow.{marks}
use Rattle.plate.specs.Wounds.{BeatenTo}
use Rattle.plate.proofs.quick.quick_beats.Given as goal

abbrev pub invariant-loop-left : goal.invariant-loop-left
invariant-loop-left g l =
    (l.left < l.fn.most) × (l.wounds.side ≡ l.fn.shape.side)
    × BeatenTo g.C.PartialEq.eq (g.H.Host.meaning l.fn.host) l.fn.shape.planes l.fn.shape.side (l.fn.most - 1 - l.left) l.fn.cells (marks l.wounds) l.cells

abbrev pub decreases-loop-left : goal.decreases-loop-left
decreases-loop-left g l = l.left
