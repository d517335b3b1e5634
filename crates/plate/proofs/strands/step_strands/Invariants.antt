use Rattle.std.proofs.Common.{◌≡◌, ◌*◌, get_or}
use Rattle.hosts.specs.Ring.{stepped}
use Rattle.plate.specs.Wounds.{PlacesWritten, strand_at}
use Rattle.plate.proofs.WoundStretches.{Passed}
use Rattle.plate.proofs.strands.step_strands.Given as goal

abbrev pub invariant-loop-stretch : goal.invariant-loop-stretch
invariant-loop-stretch g l =
    let n = l.fn.shape.planes in
    let side = l.fn.shape.side in
    let at = l.stretch-iterator in
    (at.shadow.now ≡ l.fn.wounds)
    × PlacesWritten n side (n * (side * side)) (strand_at n side) (λ i r c. Passed l.fn.wounds at r c)
    (λ i r c d. stepped (g.H.Host.meaning l.fn.host) n (λ k. get_or l.initial.cells (strand_at n side k r c) d) i) l.initial.cells l.cells
