use Rattle.std.proofs.Common.{◌≡◌, ℕ, ◌<◌, false}
use Rattle.toom.specs.Shadow.{marks}
use Rattle.plate.specs.BeatCall.{copies, line}
use Rattle.plate.proofs.wounds.wounds_of.Given as goal

abbrev pub invariant-loop-i : goal.invariant-loop-i
invariant-loop-i g l =
    (l.wounds.side ≡ l.fn.shape.side)
    × ((i r c : ℕ) (d : g.row.C.Denot) → i < l.i → r < l.fn.shape.side → c < l.fn.shape.side → marks l.wounds r c ≡ false
    → copies l.fn.cells l.fn.shape.side d i r c ≡ line l.fn.cells l.fn.shape.planes l.fn.shape.side d i)
