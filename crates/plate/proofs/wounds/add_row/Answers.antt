use Rattle.std.proofs.Common.{◌<◌, refl, sym, ◌∙◌, arith}
use Rattle.std.proofs.lemmas.Bool.{both_ways}
use Rattle.plate.proofs.WoundLooks.{stay_refl, stay_more, added_stay, added_other, not_false, cell_more}
use Rattle.plate.proofs.wounds.add_row.Goals as goal
use Rattle.plate.proofs.wounds.add_row.Goals.{then-ne+then-not-is_wound, else-ne, else-ne-via-then-ne+else-not-is_wound, else-ne-via-else-ne}

pub loop-column-preserved : goal.loop-column-preserved
loop-column-preserved g c =
    let row = c.args.row in
    let column = c.loop-column.column in
    let cells = c.args.cells.now in
    let cell = c.args.cell in
    let s = c.loop-column.wounds in
    let before = c.loop-column.invariant.0 in
    let few = c.loop-column.invariant.1 in
    let looked = c.loop-column.invariant.2 in
    let hr : row < s.side = omega (arith, before.side, c.requires.row) in
    let hc : column < s.side = omega (arith, c.side-column-end.ensures.side, c.loop-column-test.true, before.side) in
    elim c.if-ne.branch [
      | then-ne+then-not-is_wound w ↦
          let t = w.add.new.self in
          let stay = added_stay s t row column hr hc w.add.result w.add.ensures in
          rw (w.wounds-is, w.new-is) (
            stay_more _ s t before stay,
            omega (arith, few),
            cell_more cells cell s t row column stay hr hc looked
                (λ d clear. absurd (added_other s t row column hr hc w.add.result w.add.ensures column hc clear refl)),
          )
      | else-ne w ↦
          rw (w.wounds-is, w.new-is) (
            before,
            omega (arith, few),
            cell_more cells cell s s row column (stay_refl s) hr hc looked (λ d clear.
                elim w.else-ne.branch [
                  | else-ne-via-then-ne+else-not-is_wound v ↦ absurd (both_ways _ clear (sym v.if-not-is_wound.ensures))
                  | else-ne-via-else-ne v ↦
                      sym (c.cell_at.ensures d)
                      ∙ g.met.C.Kind.exact c.cell_at.result cell (not_false _ (sym v.if-ne.ensures))
                ]),
          )
    ]
