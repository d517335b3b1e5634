use Rattle.std.proofs.Common.{◌≡◌, get_or, sym, ap, ◌∙◌, inl, inr, arith}
use Rattle.std.proofs.lemmas.Bool.{both_ways, cases_lt}
use Rattle.std.proofs.lemmas.List.{get_or_read}
use Rattle.plate.proofs.WoundLooks.{not_false}
use Rattle.plate.proofs.wounds.are_all.Goals as goal
use Rattle.plate.proofs.wounds.are_all.Goals.{then-ne, else-ne}

pub loop-x-preserved : goal.loop-x-preserved
loop-x-preserved g c = λ all k d hk.
    let i = c.loop-x.x-index in
    let cells = c.args.cells.now in
    elim c.if-ne.branch [
      | then-ne w ↦ absurd (both_ways c.if-ne.same w.same-is all)
      | else-ne w ↦
          elim (cases_lt k i) [
            | inl l ↦ c.loop-x.invariant (sym w.same-is ∙ all) k d l
            | inr h ↦
                let same : k ≡ i = omega arith in
                let equal = not_false (g.C.PartialEq.eq c.x-item.result c.args.cell) (sym c.ne.ensures ∙ w.if-ne.false) in
                ap (λ m. get_or cells m d) same ∙ sym (get_or_read cells i _ c.loop-x-test.true c.x-item.is d)
                ∙ g.met.C.Kind.exact c.x-item.result c.args.cell equal
          ]
    ]
