use Rattle.std.proofs.Common.{◌*◌, ap, inl, inr, arith}
use Rattle.std.proofs.lemmas.Bool.{cases_lt}
use Rattle.toom.specs.Torus.{next}
use Rattle.plate.proofs.SweptPlaces.{next_below, copy_in, place_more}
use Rattle.plate.proofs.sweep.vote_place.Goals as goal

pub vote_one-requires : goal.vote_one-requires
vote_one-requires g c =
    let n = c.args.shape.planes in
    let side = c.args.shape.side in
    let i = c.loop-i.i in
    let row = c.args.row in
    let column = c.args.column in
    let here = copy_in n side i row column c.loop-i-test.true c.requires.row c.requires.column in
    let north = copy_in n side i (next side row) column c.loop-i-test.true (next_below side row c.requires.row) c.requires.column in
    let east = copy_in n side i row (next side column) c.loop-i-test.true c.requires.row (next_below side column c.requires.column) in
    let plane = ap (λ m. i * m) c.area-area.ensures in
    record {
      to = omega (arith, plane, here, c.copies-votes.ensures);
      north = omega (arith, plane, north, ap (λ m. m * side) c.after.ensures);
      east = omega (arith, plane, east, c.after-2.ensures);
      own = omega (arith, plane, here);
    }

pub loop-i-preserved : goal.loop-i-preserved
loop-i-preserved g c =
    let side = c.args.shape.side in
    let i = c.loop-i.i in
    let plane = ap (λ m. i * m) c.area-area.ensures in
    place_more g.C.PartialEq.eq c.args.shape.planes side _ _ c.args.cells.now c.loop-i.cells c.vote_one.new.cells c.loop-i.invariant
    i c.args.row c.args.column c.loop-i-test.true c.requires.row c.requires.column _ _ _ _
    (omega (arith, plane, c.copies-votes.ensures)) (omega (arith, plane, ap (λ m. m * side) c.after.ensures))
    (omega (arith, plane, c.after-2.ensures)) (omega (arith, plane)) c.vote_one.ensures
    (λ k p q b. elim (cases_lt k i) [ inl l ↦ inl (l, b.1) | inr h ↦ inr (omega arith, b.1) ])
    (λ k p q a. (omega arith, a.1)) (omega arith, (λ z. c.args.row, λ z. c.args.column))
