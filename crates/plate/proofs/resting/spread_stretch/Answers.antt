use Rattle.std.proofs.Common.{◌*◌, refl, arith}
use Rattle.plate.specs.BeatCall.{line}
use Rattle.plate.specs.Beside.{RepeatsLine}
use Rattle.plate.proofs.WrittenPlaces.{strands_within, strands_written}
use Rattle.plate.proofs.resting.spread_stretch.Goals as goal

pub returns : goal.returns
returns g c =
    let n = c.args.shape.planes in
    let side = c.args.shape.side in
    let x = c.args.stretch in
    let old = c.args.cells.now in
    strands_written n side (n * (side * side)) (λ k p q d. line old n side d k) x.row x.column x.length _ c.requires.row c.requires.columns
    (omega (arith, c.copies.ensures)) (RepeatsLine n side old) old c.repeat_line.new.cells c.repeat_line.ensures
    (λ q k d y hq hk is. is q k hk refl)

pub repeat_line-requires-clause-to : goal.repeat_line-requires-clause-to
repeat_line-requires-clause-to g c =
    omega (arith, c.copies.ensures, strands_within c.args.shape.planes c.args.shape.side c.args.stretch.row c.args.stretch.column c.args.stretch.length c.requires.row c.requires.columns)
