use Rattle.std.proofs.Common.{◌≡◌, ◌≤◌, take}
use Rattle.plate.specs.ReadCall.{holders}
use Rattle.plate.proofs.majority.count_same.Given as goal

abbrev pub invariant-loop-x : goal.invariant-loop-x
invariant-loop-x g l = (l.count ≡ holders g.C.PartialEq.eq l.cell (take l.x-index l.plane)) × (l.count ≤ l.x-index)
