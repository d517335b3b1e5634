use Rattle.std.proofs.Common.{◌≡◌, ◌+◌, ◌<◌}
use Rattle.plate.specs.Sweep.{PlacesVoted}
use Rattle.plate.proofs.sweep.vote_last_column.Given as goal

abbrev pub invariant-loop-r : goal.invariant-loop-r
invariant-loop-r g l =
    PlacesVoted g.C.PartialEq.eq l.fn.shape.planes l.fn.shape.side (λ k r c. (k ≡ l.i) × ((r < l.r) × (c + 1 ≡ l.fn.shape.side))) l.initial.cells l.cells
