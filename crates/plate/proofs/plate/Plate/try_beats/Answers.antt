use Rattle.std.proofs.Common.{refl, ap, ◌+◌, ◌≤◌, ◌∙◌, arith}
use Rattle.std.proofs.lemmas.Bool.{cond-true, le-leb}
use Rattle.plate.specs.BeatsCall.{beats_questions_of}
use Rattle.plate.specs.Plates.{board, members}
use Rattle.plate.proofs.BeatsLead.{many_end}
use Rattle.plate.proofs.Standing.{standing_holds, stands}
use Rattle.plate.proofs.plate.Plate.try_beats.Goals as goal

pub many_beats-requires : goal.many_beats-requires
many_beats-requires g c =
    let b = board c.args.self.now in
    let l = c.in_ok-laid.laid in
    rw (c.shape.ensures.planes, c.shape.ensures.side) (standing_holds b l (stands b c.standing.result l c.standing.ensures c.in_ok-laid.ensures.ok_part))

pub returns-clause-outcome : goal.returns-clause-outcome
returns-clause-outcome g c =
    let k = members g.C.PartialEq.eq g.C.Kind.byte_of g.C.Kind.cell_of in
    let b = board c.args.self.now in
    let l = c.in_ok-laid.laid in
    let m = c.args.times in
    let stood = stands b c.standing.result l c.standing.ensures c.in_ok-laid.ensures.ok_part in
    let young : l.age + m ≤ 1048575 = omega (arith, l.young) in (
      ap (λ o. beats_questions_of o m) stood ∙ cond-true _ _ _ (le-leb (l.age + m) 1048575 young),
      many_end k (g.H.Host.meaning c.args.host.now) b l stood m c.many_beats.new.cells _ refl refl c.vote_often.ensures
          (rw (c.shape.ensures.planes, c.shape.ensures.side) at c.many_beats.ensures),
    )
