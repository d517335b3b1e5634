use Rattle.std.proofs.Common.{ap, sym, ◌∙◌, subst, inl, inr, arith}
use Rattle.std.proofs.lemmas.Bool.{both_ways}
use Rattle.toom.specs.Shadow.{marks}
use Rattle.plate.specs.Beside.{ReadsEither}
use Rattle.plate.proofs.SoundPlaces.{emptied, reads_stay}
use Rattle.plate.proofs.WoundStretches.{all_passed, first_of, none_passed, passed_splits}
use Rattle.plate.proofs.beside.beside_of.Goals as goal

pub loop-stretch-init : goal.loop-stretch-init
loop-stretch-init c =
    let is = emptied c.side.result c.empty.result c.unwrap-beside.result c.empty.ensures c.unwrap-beside.ensures in
    let reader = c.into_iter-stretch-iterator.ensures.into_iter_gives in
    let stands = c.stretches-stretch-items.ensures in (
      ap (λ t. t.shadow.now) reader ∙ stands.shadow,
      is.sides ∙ c.side.ensures.side,
      λ r q hr hq marked. absurd (both_ways _ (is.places r q (omega (arith, c.side.ensures.side)) (omega (arith, c.side.ensures.side))) marked),
      λ r q hr hq p.
          absurd
          (none_passed c.args.wounds.now c.into_iter-stretch-iterator.result (ap (λ t. t.row) reader ∙ stands.row) (ap (λ t. t.column) reader ∙ stands.column) r q p),
    )

pub add_beside-requires : goal.add_beside-requires
add_beside-requires c =
    let first = first_of c.args.wounds.now c.loop-stretch.stretch-iterator c.next.new.self c.loop-stretch.invariant.0 c.in-Some.stretch c.in-Some.ensures.steps in
    record { side = c.loop-stretch.invariant.1; row = first.within; columns = first.wide }

pub loop-stretch-preserved : goal.loop-stretch-preserved
loop-stretch-preserved c =
    let s = c.args.wounds.now in
    let w = marks s in
    let at = c.loop-stretch.stretch-iterator in
    let x = c.in-Some.stretch in
    let old = c.loop-stretch.beside in
    let new = c.add_beside.new.beside in
    let added = c.add_beside.ensures.added in
    let sides = c.loop-stretch.invariant.1 in (
      ap (λ t. t.now) c.in-Some.ensures.steps.1 ∙ c.loop-stretch.invariant.0,
      added.side ∙ sides,
      λ r q hr hq marked.
          elim (added.sound r q (omega (arith, sides)) (omega (arith, sides)) marked) [
            | inl before ↦ c.loop-stretch.invariant.2 r q hr hq before
            | inr out ↦ out
          ],
      λ r q hr hq p.
          elim (passed_splits s at c.next.new.self c.loop-stretch.invariant.0 x c.in-Some.ensures.steps r q hr hq p) [
            | inl before ↦ reads_stay w old new added s.side r q sides hr hq (c.loop-stretch.invariant.3 r q hr hq before)
            | inr here ↦ subst (λ m. ReadsEither s.side w (marks new) m q) (sym here.0) (c.add_beside.ensures.read q here.1.0 here.1.1)
          ],
    )

pub returns-clause-side : goal.returns-clause-side
returns-clause-side c = c.loop-stretch.invariant.1

pub returns-clause-beside : goal.returns-clause-beside
returns-clause-beside c = record {
  sound = c.loop-stretch.invariant.2;
  read = λ r q hr hq marked.
      c.loop-stretch.invariant.3 r q hr hq
      (all_passed c.args.wounds.now c.loop-stretch.stretch-iterator c.next.new.self c.loop-stretch.invariant.0 c.in-None.ensures.steps r q hr hq marked);
}
