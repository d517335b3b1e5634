use Rattle.std.proofs.Common.{◌≡◌, true, false, take, subst, arith}
use Rattle.std.proofs.lemmas.List.{take_all}
use Rattle.plate.proofs.Majorities.{Paired, paired_at, paired_first, paired_like, paired_unlike, read_more, left_over}
use Rattle.plate.proofs.majority.candidate.Goals as goal
use Rattle.plate.proofs.majority.candidate.Goals.{then-left-eq0, else-left-eq0+then-eq, else-left-eq0+else-eq}

pub loop-x-preserved : goal.loop-x-preserved
loop-x-preserved g c =
    let equal = g.C.PartialEq.eq in
    let exact = g.met.C.Kind.exact in
    let cell = c.loop-x.cell in
    let left = c.loop-x.left in
    let x = c.x-item.result in
    let seen = take c.loop-x.x-index c.args.plane.now in
    let more = read_more c.args.plane.now c.loop-x.x-index x c.loop-x-test.true c.x-item.is in
    let inv = c.loop-x.invariant.0 in
    elim c.if-left-eq0.branch [
      | then-left-eq0 w ↦ (
        paired_at equal _ _ _ _ _ _ w.cell-is w.left-is more
            (paired_first equal exact cell left seen inv x w.if-left-eq0.true),
        omega (arith, w.left-is),
      )
      | else-left-eq0+then-eq w ↦
          let like : equal x cell ≡ true = cc (w.eq.ensures, w.if-eq.true) in (
            paired_at equal _ _ _ _ _ _ w.cell-is w.left-is more
                (paired_like equal exact cell left seen inv x like),
            omega (arith, w.left-is),
          )
      | else-left-eq0+else-eq w ↦
          let unlike : equal x cell ≡ false = cc (w.eq.ensures, w.if-eq.false) in (
            paired_at equal _ _ _ _ _ _ w.cell-is w.left-is more
                (paired_unlike equal exact cell left seen inv x unlike (omega arith)),
            omega (arith, w.left-is),
          )
    ]

pub returns : goal.returns
returns g c =
    let equal = g.C.PartialEq.eq in
    let exact = g.met.C.Kind.exact in
    left_over equal exact c.loop-x.cell c.loop-x.left c.args.plane.now
    (subst (λ cells. Paired equal c.loop-x.cell c.loop-x.left cells) (take_all c.loop-x.x-index c.args.plane.now (omega arith))
    c.loop-x.invariant.0)
