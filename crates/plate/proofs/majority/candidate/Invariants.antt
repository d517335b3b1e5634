use Rattle.std.proofs.Common.{◌≤◌, take}
use Rattle.plate.proofs.Majorities.{Paired}
use Rattle.plate.proofs.majority.candidate.Given as goal

abbrev pub invariant-loop-x : goal.invariant-loop-x
invariant-loop-x g l = Paired g.C.PartialEq.eq l.cell l.left (take l.x-index l.plane) × (l.left ≤ l.x-index)
