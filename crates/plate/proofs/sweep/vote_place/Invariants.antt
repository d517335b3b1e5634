use Rattle.std.proofs.Common.{◌≡◌, ◌<◌}
use Rattle.plate.specs.Sweep.{PlacesVoted}
use Rattle.plate.proofs.sweep.vote_place.Given as goal

abbrev pub invariant-loop-i : goal.invariant-loop-i
invariant-loop-i g l =
    PlacesVoted g.C.PartialEq.eq l.fn.shape.planes l.fn.shape.side (λ i r c. (i < l.i) × ((r ≡ l.row) × (c ≡ l.column))) l.initial.cells l.cells
