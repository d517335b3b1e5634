use Rattle.std.proofs.Common.{◌≡◌, inl, inr, ◌∙◌, subst, arith}
use Rattle.std.proofs.lemmas.Bool.{cases_lt}
use Rattle.toom.specs.Shadow.{marks}
use Rattle.toom.specs.Torus.{next}
use Rattle.plate.specs.Beside.{InEither, ReadsEither}
use Rattle.plate.proofs.SoundPlaces.{added_more, added_none, either_stays, reads_stay}
use Rattle.plate.proofs.SweptPlaces.{next_below}
use Rattle.plate.proofs.beside.add_beside.Goals as goal

pub loop-column-init : goal.loop-column-init
loop-column-init c = (added_none (marks c.args.wounds.now) c.args.beside.now, λ q low high. absurd (omega arith))

pub loop-column-preserved : goal.loop-column-preserved
loop-column-preserved c =
    let w = marks c.args.wounds.now in
    let side = c.args.wounds.now.side in
    let row = c.args.stretch.row in
    let column = c.loop-column.column in
    let old = c.loop-column.beside in
    let mid = c.add_sound.new.beside in
    let new = c.add_sound-in-loop-column.new.beside in
    let first = c.add_sound.ensures.added in
    let second = c.add_sound-in-loop-column.ensures.added in
    let both = added_more w old mid new first second in
    let before = c.loop-column.invariant.0 in (
      added_more w c.args.beside.now old new before both,
      λ q low high.
          elim (cases_lt q column) [
            | inl l ↦
                reads_stay w old new both side row q (omega (arith, before.side)) c.requires.row (omega arith)
                (c.loop-column.invariant.1 q low l)
            | inr g ↦
                let same : column ≡ q = omega arith in
                let north : c.after-north.result ≡ next side row = c.after-north.ensures ∙ (λ z. next (c.side-side.ensures.side z) row) in
                let east : c.after.result ≡ next side column = c.after.ensures ∙ (λ z. next (c.side-side.ensures.side z) column) in
                let one = either_stays w mid new second c.after-north.result column (omega (arith, before.side, first.side, north, next_below side row c.requires.row)) (omega (arith, before.side, first.side)) c.add_sound.ensures.either in
                subst (λ m. ReadsEither side w (marks new) row m) same
                (subst (λ m. InEither w (marks new) m column) north one, subst (λ m. InEither w (marks new) row m) east c.add_sound-in-loop-column.ensures.either)
          ],
    )
