use Rattle.std.proofs.Common.{◌≡◌, get_or}
use Rattle.plate.specs.Layout.{copy_at}
use Rattle.plate.specs.Wounds.{PlacesWritten, kept_at}
use Rattle.plate.proofs.WoundStretches.{Passed}
use Rattle.plate.proofs.settling.settle_wounds.Given as goal

abbrev pub invariant-loop-stretch : goal.invariant-loop-stretch
invariant-loop-stretch g l =
    let n = l.fn.shape.planes in
    let side = l.fn.shape.side in
    let at = l.stretch-iterator in
    (at.shadow.now ≡ l.fn.wounds)
    × PlacesWritten n side 0 (copy_at side) (λ i r c. Passed l.fn.wounds at r c) (λ i r c d. get_or l.initial.cells (kept_at n side i r c) d)
    l.initial.cells l.cells
