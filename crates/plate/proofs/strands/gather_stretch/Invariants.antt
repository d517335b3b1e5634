use Rattle.std.proofs.Common.{◌≡◌, ◌*◌, ◌<◌, ◌≤◌}
use Rattle.plate.specs.BeatCall.{copies}
use Rattle.plate.specs.Wounds.{PlacesWritten, strand_at}
use Rattle.plate.proofs.strands.gather_stretch.Given as goal

abbrev pub invariant-loop-column : goal.invariant-loop-column
invariant-loop-column g l =
    let n = l.fn.shape.planes in
    let side = l.fn.shape.side in
    PlacesWritten n side (n * (side * side)) (strand_at n side) (λ i r c. (c < l.column) × ((r ≡ l.fn.stretch.row) × (l.fn.stretch.column ≤ c)))
    (λ i r c d. copies l.initial.cells side d i r c) l.initial.cells l.cells
