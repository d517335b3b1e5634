use Rattle.std.proofs.Common.{◌≡◌, true}
use Rattle.toom.specs.Vote.{voted}
use Rattle.plate.specs.Wounds.{PlacesWritten, seen, strand_at}
use Rattle.plate.proofs.WoundStretches.{Passed}
use Rattle.plate.proofs.resting.vote_lying.Given as goal

abbrev pub invariant-loop-stretch : goal.invariant-loop-stretch
invariant-loop-stretch g l =
    let n = l.fn.shape.planes in
    let side = l.fn.shape.side in
    let at = l.stretch-iterator in
    (at.shadow.now ≡ l.fn.wounds)
    × PlacesWritten n side 0 (strand_at n side) (λ i r c. Passed l.fn.wounds at r c)
    (λ i r c d. voted g.C.PartialEq.eq side (seen (λ p q. true) l.initial.cells n side d i) r c) l.initial.cells l.cells
