use Rattle.std.proofs.Common.{◌≡◌, ◌*◌, ◌≤◌, get_or, arith}
use Rattle.hosts.specs.Ring.{stepped}
use Rattle.plate.specs.Wounds.{strand_at}
use Rattle.plate.proofs.WrittenPlaces.{each_more, steps_stay, written_same}
use Rattle.plate.proofs.strands.step_each.Goals as goal

pub loop-column-preserved : goal.loop-column-preserved
loop-column-preserved g c =
    let n = c.args.shape.planes in
    let side = c.args.shape.side in
    let row = c.args.stretch.row in
    let from = c.args.stretch.column in
    let column = c.loop-column.column in
    let old = c.args.cells.now in
    let mid = c.loop-column.cells in
    let stays = c.loop-column.invariant.outside in
    each_more n side (n * (side * side)) (strand_at n side) (λ k p q d. stepped (g.H.Host.meaning c.args.host.now) n (λ m. get_or old (strand_at n side m p q) d) k) (λ k p q. q) (λ k p q. (p ≡ row) × (from ≤ q)) column old mid
    c.loop-column.invariant _ c.step_strand.new.cells
    (written_same n side (n * (side * side)) (strand_at n side) _ _ _ mid c.step_strand.new.cells c.step_strand.ensures
    (λ k p q hk hp hq x. (x.1, (x.0, omega (arith, x.1)))) (λ k p q hk hp hq y. (y.1.0, y.0)))
    (λ k p q d hk hp hq _. steps_stay (g.H.Host.meaning c.args.host.now) n side old mid stays k p q d hk hp hq)

pub returns : goal.returns
returns g c =
    let n = c.args.shape.planes in
    let side = c.args.shape.side in
    written_same n side (n * (side * side)) (strand_at n side) _ _ _ c.args.cells.now c.loop-column.cells c.loop-column.invariant
    (λ k p q hk hp hq x. (x.1.0, (x.1.1, omega (arith, x.0)))) (λ k p q hk hp hq y. (omega (arith, y.1.1), (y.0, y.1.0)))
