use Rattle.std.proofs.Common.{◌≡◌, ◌+◌, ◌<◌, ◌⊎◌}
use Rattle.plate.specs.Sweep.{PlacesVoted}
use Rattle.plate.proofs.sweep.vote_across.Given as goal

abbrev pub invariant-loop-j : goal.invariant-loop-j
invariant-loop-j g l =
    PlacesVoted g.C.PartialEq.eq l.shape.planes l.shape.side
    (λ i r c. ((r < l.j) × (c + 1 ≡ l.shape.side)) ⊎ ((r + 1 ≡ l.shape.side) × (c < l.j))) l.initial.cells l.cells
