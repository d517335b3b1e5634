use Rattle.std.proofs.Common.{◌≡◌, ◌*◌, ◌≤◌, length, drop}
use Rattle.plate.proofs.Hurts.{CountedBelow}
use Rattle.plate.proofs.PlaneParts.{planes_left, line_of}
use Rattle.plate.proofs.mapping.write_map.Given as goal

abbrev pub invariant-loop-plane : goal.invariant-loop-plane
invariant-loop-plane g l =
    let n = l.fn.shape.planes in
    let side = l.fn.shape.side in
    let i = length l.yielded in
    (l.plane-iterator.a.size ≡ side * side) × (l.plane-iterator.a.rest.now ≡ planes_left l.cells n side i)
    × (l.plane-iterator.b.rest.now ≡ drop i (line_of l.cells n side)) × (i ≤ n)
    × CountedBelow g.C.PartialEq.eq n side l.cells l.initial.out i l.out
