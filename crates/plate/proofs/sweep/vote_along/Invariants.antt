use Rattle.std.proofs.Common.{◌<◌, ◌⊎◌}
use Rattle.plate.specs.Sweep.{PlacesVoted, InColumn, InRow}
use Rattle.plate.proofs.sweep.vote_along.Given as goal

abbrev pub invariant-loop-i : goal.invariant-loop-i
invariant-loop-i g l =
    PlacesVoted g.C.PartialEq.eq l.shape.planes l.shape.side (λ i r c. (i < l.i) × (InColumn l.shape.side r c ⊎ InRow l.shape.side r c))
    l.initial.cells l.cells
