use Rattle.std.proofs.Common.{refl, ◌∙◌, arith}
use Rattle.plate.proofs.SteppedStretches.{ends_written}
use Rattle.plate.proofs.Sweeps.{three}
use Rattle.plate.proofs.WrittenPlaces.{strand_within}
use Rattle.plate.proofs.strand.step_ends.Goals as goal

pub returns : goal.returns
returns g c =
    let n = c.args.shape.planes in
    let side = c.args.shape.side in
    let host = g.H.Host.meaning c.args.host.now in
    let strand = strand_within n side c.args.row c.args.column c.requires.row c.requires.column in
    ends_written host n side c.requires.planes c.args.row c.args.column _ _ _ c.requires.row c.requires.column c.copies-to.ensures refl refl
    c.args.cells.now c.put.new.cells c.put-2.new.cells c.answer-stepped_start.result c.answer-stepped_end.result (omega (arith, strand, c.copies-to.ensures)) (omega (arith, c.put.auto.cells))
    c.put.ensures c.put-2.ensures
    (λ d. c.answer-stepped_start.ensures ∙ three host (c.cell_at-end.ensures d) (c.cell_at-start.ensures d) (c.cell_at.ensures d))
    (λ d. c.answer-stepped_end.ensures ∙ three host (c.cell_at-2.ensures d) (c.cell_at-end.ensures d) (c.cell_at-start.ensures d))
