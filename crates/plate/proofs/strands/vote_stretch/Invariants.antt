use Rattle.std.proofs.Common.{◌≡◌, ◌<◌, ◌≤◌}
use Rattle.toom.specs.Shadow.{marks}
use Rattle.toom.specs.Vote.{voted}
use Rattle.plate.specs.Wounds.{PlacesWritten, seen, strand_at}
use Rattle.plate.proofs.strands.vote_stretch.Given as goal

abbrev pub invariant-loop-column : goal.invariant-loop-column
invariant-loop-column g l =
    let n = l.fn.shape.planes in
    let side = l.fn.shape.side in
    PlacesWritten n side 0 (strand_at n side) (λ i r c. (c < l.column) × ((r ≡ l.fn.stretch.row) × (l.fn.stretch.column ≤ c)))
    (λ i r c d. voted g.C.PartialEq.eq side (seen (marks l.fn.wounds) l.initial.cells n side d i) r c) l.initial.cells l.cells
