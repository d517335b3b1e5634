use Rattle.std.proofs.Common.{◌+◌, ◌-◌, ◌*◌, ap, inl, inr, add-mul, arith}
use Rattle.std.proofs.lemmas.Bool.{cases_lt}
use Rattle.plate.proofs.SweptPlaces.{next_more, next_last, copy_in, place_more}
use Rattle.plate.proofs.sweep.vote_last_column.Goals as goal

pub vote_one-requires-clause-north : goal.vote_one-requires-clause-north
vote_one-requires-clause-north g c =
    let side = c.args.shape.side in
    omega (
      arith,
      ap (λ m. c.args.i * m) c.area.ensures,
      copy_in c.args.shape.planes side c.args.i (c.loop-r.r + 1) (side - 1) c.requires.plane (omega arith) (omega arith),
    )

pub loop-r-preserved : goal.loop-r-preserved
loop-r-preserved g c =
    let side = c.args.shape.side in
    let i = c.args.i in
    let r = c.loop-r.r in
    let plane = ap (λ m. i * m) c.area.ensures in
    place_more g.C.PartialEq.eq c.args.shape.planes side _ _ c.args.cells.now c.loop-r.cells c.vote_one.new.cells c.loop-r.invariant
    i r (side - 1) c.requires.plane (omega arith) (omega arith) _ _ _ _
    (omega (arith, plane, c.copies-votes.ensures)) (omega (arith, plane, ap (λ m. m * side) (next_more side r (omega arith)), add-mul r 1 side))
    (omega (arith, plane, next_last side (side - 1) (omega arith))) (omega (arith, plane)) c.vote_one.ensures
    (λ k p q b. elim (cases_lt p r) [ inl l ↦ inl (b.0, (l, b.1.1)) | inr h ↦ inr (b.0, (omega arith, omega arith)) ])
    (λ k p q a. (a.0, (omega arith, a.1.1))) (λ z. i, (omega arith, omega arith))
