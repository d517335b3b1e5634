use Rattle.std.proofs.Common.{◌≡◌, ◌≤◌, get_or, arith}
use Rattle.plate.specs.Layout.{copy_at}
use Rattle.plate.specs.Wounds.{kept_at}
use Rattle.plate.proofs.SettledPlaces.{kept_stays}
use Rattle.plate.proofs.WrittenPlaces.{each_more, written_same}
use Rattle.plate.proofs.settling.settle_stretch.Goals as goal

pub loop-column-preserved : goal.loop-column-preserved
loop-column-preserved g c =
    let n = c.args.shape.planes in
    let side = c.args.shape.side in
    let row = c.args.stretch.row in
    let from = c.args.stretch.column in
    let column = c.loop-column.column in
    let old = c.args.cells.now in
    let mid = c.loop-column.cells in
    each_more n side 0 (copy_at side) (λ k p q d. get_or old (kept_at n side k p q) d) (λ k p q. q) (λ k p q. (p ≡ row) × (from ≤ q)) column old mid
    c.loop-column.invariant _ c.settle_place.new.cells
    (written_same n side 0 (copy_at side) _ _ _ mid c.settle_place.new.cells c.settle_place.ensures
    (λ k p q hk hp hq x. (x.1, (x.0, omega (arith, x.1)))) (λ k p q hk hp hq y. (y.1.0, y.0)))
    (λ k p q d hk hp hq _. kept_stays n side old mid c.loop-column.invariant.outside k p q d)

pub returns : goal.returns
returns g c =
    let n = c.args.shape.planes in
    let side = c.args.shape.side in
    written_same n side 0 (copy_at side) _ _ _ c.args.cells.now c.loop-column.cells c.loop-column.invariant
    (λ k p q hk hp hq x. (x.1.0, (x.1.1, omega (arith, x.0)))) (λ k p q hk hp hq y. (omega (arith, y.1.1), (y.0, y.1.0)))
