use Rattle.std.proofs.Common.{◌≡◌, ◌*◌}
use Rattle.plate.specs.BeatCall.{line}
use Rattle.plate.specs.Wounds.{PlacesWritten, strand_at}
use Rattle.plate.proofs.WoundStretches.{Passed}
use Rattle.plate.proofs.resting.spread_line.Given as goal

abbrev pub invariant-loop-stretch : goal.invariant-loop-stretch
invariant-loop-stretch g l =
    let n = l.fn.shape.planes in
    let side = l.fn.shape.side in
    let at = l.stretch-iterator in
    (at.shadow.now ≡ l.fn.places)
    × PlacesWritten n side (n * (side * side)) (strand_at n side) (λ i r c. Passed l.fn.places at r c)
    (λ i r c d. line l.initial.cells n side d i) l.initial.cells l.cells
