use Rattle.std.proofs.Common.{◌≡◌, ◌+◌, ◌*◌, get_or, sym, ap, ◌∙◌, inl, inr, arith}
use Rattle.std.proofs.lemmas.Bool.{cases_lt}
use Rattle.plate.specs.Layout.{copy_at, line_at}
use Rattle.plate.proofs.Grids.{place_in}
use Rattle.plate.proofs.WoundLooks.{part_read}
use Rattle.plate.proofs.wounds.wounds_of.Goals as goal

pub loop-i-preserved : goal.loop-i-preserved
loop-i-preserved g c =
    let n = c.args.shape.planes in
    let side = c.args.shape.side in
    let cells = c.args.cells.now in
    let i = c.loop-i.i in
    let sides = c.loop-i.invariant.0 in
    let area = c.area-area.ensures in
    let called = c.in_ok-room.ensures in
    let looked = rw (sides, area) at called.clear in (
      called.side ∙ sides,
      λ k p q d hk hp hq clear.
          elim (cases_lt k i) [
            | inl l ↦ c.loop-i.invariant.1 k p q d l hp hq (called.stay p q (omega (arith, sides)) (omega (arith, sides)) clear)
            | inr h ↦
                let at : k ≡ i = omega arith in
                let place : copy_at side k p q ≡ i * (side * side) + (p * side + q) = ap (λ m. copy_at side m p q) at in
                let from : 2 * c.copies-line.result + i ≡ line_at n side k = omega (arith, at, c.copies-line.ensures) in
                ap (λ m. get_or cells m d) place
                ∙ sym (part_read cells (i * (side * side)) (side * side) (p * side + q) d (place_in side side p q hp hq))
                ∙ looked p q d hp hq clear ∙ c.cell_at.ensures d ∙ ap (λ m. get_or cells m d) from
          ],
    )
