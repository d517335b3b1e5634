use Rattle.std.proofs.Common.{◌≡◌, length, None, refl, ap, ◌∙◌}
use Rattle.std.proofs.lemmas.Bool.{cond-true, le-leb}
use Rattle.std.specs.Option.{option_map}
use Rattle.hosts.specs.Refusal.{ask_each}
use Rattle.plate.specs.Board.{side_of}
use Rattle.plate.specs.Plates.{board}
use Rattle.plate.specs.ReadCall.{plane_question, read_questions_of, read_refusal}
use Rattle.plate.proofs.Standing.{stands}
use Rattle.plate.proofs.plate.Plate.try_read.Goals as goal

pub returns : goal.returns
returns g c =
    let l = c.in_ok-laid.laid in
    let b = board c.args.self.now in
    let out = c.args.out.now in
    let stood = stands b c.standing.result l c.standing.ensures c.in_ok-laid.ensures.ok_part in
    let shape = c.shape-shape.ensures in
    let whole : ask_each (plane_question g.C.PartialEq.eq b.cells (side_of l)) l.planes ≡ None =
    (rw (shape.planes, shape.side) at c.first_split.ensures) ∙ ap (option_map (read_refusal 16)) c.in_default.is in (
      ap (λ o. read_questions_of g.C.PartialEq.eq o b.cells (length out)) stood
          ∙ cond-true _ _ _ (le-leb l.planes (length out) c.if-out-laid.false) ∙ whole,
      (
        record {
          stood = l;
          standing_before = stood;
          out = rw (shape.planes, shape.side) at c.write_reading.ensures;
        },
        refl,
      ),
    )
