use Rattle.std.proofs.Common.{◌*◌, ◌≤◌, length, refl, ap, ◌∙◌}
use Rattle.std.proofs.lemmas.Bool.{cond-true, le-leb}
use Rattle.plate.specs.Board.{side_of}
use Rattle.plate.specs.MapCall.{map_questions_of}
use Rattle.plate.specs.Plates.{board}
use Rattle.plate.proofs.Standing.{stands}
use Rattle.plate.proofs.plate.Plate.try_map.Goals as goal

pub returns : goal.returns
returns g c =
    let l = c.in_ok-laid.laid in
    let b = board c.args.self.now in
    let out = c.args.out.now in
    let stood = stands b c.standing.result l c.standing.ensures c.in_ok-laid.ensures.ok_part in
    let shape = c.shape-shape.ensures in
    let room : side_of l * side_of l ≤ length out = rw (c.area.ensures, shape.side) at c.if-out-area.false in (
      ap (λ o. map_questions_of o (length out)) stood ∙ cond-true _ _ _ (le-leb (side_of l * side_of l) (length out) room),
      (
        record {
          stood = l;
          standing_before = stood;
          out = rw (shape.planes, shape.side) at c.write_map.ensures;
        },
        refl,
      ),
    )
