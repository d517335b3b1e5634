use Rattle.std.proofs.Common.{◌≡◌, ◌*◌, ◌<◌, ◌≤◌, get_or}
use Rattle.hosts.specs.Ring.{stepped}
use Rattle.plate.specs.Wounds.{PlacesWritten, strand_at}
use Rattle.plate.proofs.strands.step_each.Given as goal

abbrev pub invariant-loop-column : goal.invariant-loop-column
invariant-loop-column g l =
    let n = l.fn.shape.planes in
    let side = l.fn.shape.side in
    PlacesWritten n side (n * (side * side)) (strand_at n side) (λ i r c. (c < l.column) × ((r ≡ l.fn.stretch.row) × (l.fn.stretch.column ≤ c)))
    (λ i r c d. stepped (g.H.Host.meaning l.fn.host) n (λ k. get_or l.initial.cells (strand_at n side k r c) d) i) l.initial.cells l.cells
