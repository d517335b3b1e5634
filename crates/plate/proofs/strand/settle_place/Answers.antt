use Rattle.std.proofs.Common.{◌≡◌, ◌+◌, ◌*◌, get_or, ap, ◌∙◌, arith}
use Rattle.plate.specs.Layout.{copy_at}
use Rattle.plate.specs.Wounds.{kept_at}
use Rattle.plate.proofs.SettledPlaces.{kept_stays}
use Rattle.plate.proofs.SweptPlaces.{copy_in}
use Rattle.plate.proofs.WrittenPlaces.{copy_written, each_more, none_written, strand_in, written_same}
use Rattle.plate.proofs.strand.settle_place.Goals as goal

pub loop-i-init : goal.loop-i-init
loop-i-init g c =
    none_written c.args.shape.planes c.args.shape.side 0 (copy_at c.args.shape.side) _ c.args.cells.now _ (λ i r q hi hr hq a. omega arith)

pub cell_at-copy-requires : goal.cell_at-copy-requires
cell_at-copy-requires g c =
    omega (
      arith,
      c.copies.ensures,
      strand_in c.args.shape.planes c.args.shape.side c.loop-i.i c.args.row c.args.column c.loop-i-test.true c.requires.row c.requires.column,
    )

pub put-requires : goal.put-requires
put-requires g c =
    omega (
      arith,
      ap (λ m. c.loop-i.i * m) c.area-area.ensures,
      copy_in c.args.shape.planes c.args.shape.side c.loop-i.i c.args.row c.args.column c.loop-i-test.true c.requires.row c.requires.column,
    )

pub loop-i-preserved : goal.loop-i-preserved
loop-i-preserved g c =
    let n = c.args.shape.planes in
    let side = c.args.shape.side in
    let i = c.loop-i.i in
    let row = c.args.row in
    let column = c.args.column in
    let old = c.args.cells.now in
    let mid = c.loop-i.cells in
    let below = c.loop-i-test.true in
    let plane = ap (λ m. i * m) c.area-area.ensures in
    let from : c.copies.result + (row * side + column) * n + i ≡ kept_at n side i row column = omega (arith, c.copies.ensures) in
    each_more n side 0 (copy_at side) (λ k p q d. get_or old (kept_at n side k p q) d) (λ k p q. k)
    (λ k p q. (p ≡ row) × (q ≡ column)) i old mid c.loop-i.invariant _ c.put.new.cells
    (copy_written n side 0 (λ k p q d. get_or mid (kept_at n side k p q) d) i row column _ below c.requires.row
    c.requires.column (omega (arith, plane)) mid c.put.new.cells (λ d. c.cell_at-copy.result)
    (omega (arith, plane, copy_in n side i row column below c.requires.row c.requires.column)) (λ d. c.put.ensures)
    (λ d. c.cell_at-copy.ensures d ∙ ap (λ m. get_or mid m d) from))
    (λ k p q d hk hp hq _. kept_stays n side old mid c.loop-i.invariant.outside k p q d)

pub returns : goal.returns
returns g c =
    written_same c.args.shape.planes c.args.shape.side 0 (copy_at c.args.shape.side) _ _ _ c.args.cells.now c.loop-i.cells c.loop-i.invariant
    (λ k p q hk hp hq x. x.1) (λ k p q hk hp hq y. (omega arith, y))
