use Rattle.std.proofs.Common.{◌≡◌, ◌+◌, ◌*◌, get_or, set, sym, ap, ◌∙◌, subst, inl, arith}
use Rattle.plate.specs.BeatCall.{copies}
use Rattle.plate.specs.Layout.{copy_at}
use Rattle.plate.specs.Sweep.{Swept}
use Rattle.plate.proofs.Sweeps.{swept_more}
use Rattle.plate.proofs.SweptPlaces.{copy_in}
use Rattle.plate.proofs.WrittenPlaces.{strand_in, strand_written}
use Rattle.plate.proofs.strand.gather_strand.Goals as goal

pub cell_at-copy-requires : goal.cell_at-copy-requires
cell_at-copy-requires g c =
    omega (
      arith,
      ap (λ m. c.loop-i.i * m) c.area-area.ensures,
      copy_in c.args.shape.planes c.args.shape.side c.loop-i.i c.args.row c.args.column c.loop-i-test.true c.requires.row c.requires.column,
    )

pub put-requires : goal.put-requires
put-requires g c =
    omega (
      arith,
      c.copies.ensures,
      strand_in c.args.shape.planes c.args.shape.side c.loop-i.i c.args.row c.args.column c.loop-i-test.true c.requires.row c.requires.column,
    )

pub loop-i-preserved : goal.loop-i-preserved
loop-i-preserved g c =
    let n = c.args.shape.planes in
    let side = c.args.shape.side in
    let i = c.loop-i.i in
    let row = c.args.row in
    let column = c.args.column in
    let old = c.args.cells.now in
    let mid = c.loop-i.cells in
    let below = c.loop-i-test.true in
    let to = n * (side * side) + (row * side + column) * n in
    let here = copy_in n side i row column below c.requires.row c.requires.column in
    let at : c.copies.result + (row * side + column) * n + i ≡ to + i = omega (arith, c.copies.ensures) in
    let from : i * c.area-area.result + (row * side + column) ≡ copy_at side i row column = ap (λ m. i * m + (row * side + column)) c.area-area.ensures in
    subst (λ ys. Swept to (i + 1) (λ j d x. x ≡ get_or old (copy_at side j row column) d) old ys)
    (sym (c.put.ensures ∙ ap (λ m. set mid m c.cell_at-copy.result) at))
    (swept_more to i (λ j d x. x ≡ get_or old (copy_at side j row column) d) old mid c.cell_at-copy.result c.loop-i.invariant
    (omega (arith, strand_in n side i row column below c.requires.row c.requires.column))
    (λ d.
    c.cell_at-copy.ensures d ∙ ap (λ m. get_or mid m d) from ∙ c.loop-i.invariant.outside (copy_at side i row column) d (inl (omega (arith, here)))))

pub returns : goal.returns
returns g c =
    let n = c.args.shape.planes in
    let side = c.args.shape.side in
    let row = c.args.row in
    let column = c.args.column in
    let old = c.args.cells.now in
    let last : c.loop-i.i ≡ n = omega arith in
    strand_written n side (n * (side * side)) (λ i r q d. copies old side d i r q) row column (n * (side * side) + (row * side + column) * n) c.requires.row c.requires.column
    (λ z. n * (side * side) + (row * side + column) * n) (λ j d x. x ≡ get_or old (copy_at side j row column) d) old c.loop-i.cells
    (subst (λ m. Swept (n * (side * side) + (row * side + column) * n) m (λ j d x. x ≡ get_or old (copy_at side j row column) d) old c.loop-i.cells) last c.loop-i.invariant)
    (λ j d x hj is. is)
