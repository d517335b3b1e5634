use Rattle.std.proofs.Common.{◌≡◌, ◌≤◌, arith}
use Rattle.toom.specs.Shadow.{marks}
use Rattle.toom.specs.Vote.{voted}
use Rattle.plate.specs.Wounds.{seen, strand_at}
use Rattle.plate.proofs.WrittenPlaces.{each_more, votes_stay, written_same}
use Rattle.plate.proofs.strands.vote_stretch.Goals as goal

pub loop-column-preserved : goal.loop-column-preserved
loop-column-preserved g c =
    let n = c.args.shape.planes in
    let side = c.args.shape.side in
    let row = c.args.stretch.row in
    let from = c.args.stretch.column in
    let column = c.loop-column.column in
    let old = c.args.cells.now in
    let mid = c.loop-column.cells in
    let stays = c.loop-column.invariant.outside in
    each_more n side 0 (strand_at n side) (λ k p q d. voted g.C.PartialEq.eq side (seen (marks c.args.wounds.now) old n side d k) p q) (λ k p q. q) (λ k p q. (p ≡ row) × (from ≤ q)) column old mid
    c.loop-column.invariant _ c.vote_strand.new.cells
    (written_same n side 0 (strand_at n side) _ _ _ mid c.vote_strand.new.cells c.vote_strand.ensures
    (λ k p q hk hp hq x. (x.1, (x.0, omega (arith, x.1)))) (λ k p q hk hp hq y. (y.1.0, y.0)))
    (λ k p q d hk hp hq _. votes_stay g.C.PartialEq.eq n side (marks c.args.wounds.now) old mid stays k p q d)

pub returns : goal.returns
returns g c =
    let n = c.args.shape.planes in
    let side = c.args.shape.side in
    written_same n side 0 (strand_at n side) _ _ _ c.args.cells.now c.loop-column.cells c.loop-column.invariant
    (λ k p q hk hp hq x. (x.1.0, (x.1.1, omega (arith, x.0)))) (λ k p q hk hp hq y. (omega (arith, y.1.1), (y.0, y.1.0)))
