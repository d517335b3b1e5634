use Rattle.std.proofs.Common.{length, refl, ap, ◌∙◌}
use Rattle.std.proofs.lemmas.Bool.{cond-true, le-leb}
use Rattle.plate.specs.Board.{side_of}
use Rattle.plate.specs.Plates.{board}
use Rattle.plate.specs.ShadowCall.{shadow_questions_of}
use Rattle.plate.proofs.Standing.{stands}
use Rattle.plate.proofs.plate.Plate.try_shadow.Goals as goal

pub returns : goal.returns
returns g c =
    let l = c.in_ok-laid.laid in
    let b = board c.args.self.now in
    let stood = stands b c.standing.result l c.standing.ensures c.in_ok-laid.ensures.ok_part in
    let left = c.in_ok-write.ensures in (
      ap (λ o. shadow_questions_of o (length c.args.out.now)) stood ∙ cond-true _ _ _ (le-leb (side_of l) (length c.args.out.now) left.0),
      (record { stood = l; standing_before = stood; out = left.1 }, refl),
    )
