use Rattle.std.proofs.Common.{◌≡◌, ◌<◌, get_or}
use Rattle.plate.specs.Layout.{copy_at}
use Rattle.plate.specs.Wounds.{PlacesWritten, kept_at}
use Rattle.plate.proofs.strand.settle_place.Given as goal

abbrev pub invariant-loop-i : goal.invariant-loop-i
invariant-loop-i g l =
    let n = l.fn.shape.planes in
    let side = l.fn.shape.side in
    PlacesWritten n side 0 (copy_at side) (λ i r c. (i < l.i) × ((r ≡ l.fn.row) × (c ≡ l.fn.column)))
    (λ i r c d. get_or l.initial.cells (kept_at n side i r c) d) l.initial.cells l.cells
