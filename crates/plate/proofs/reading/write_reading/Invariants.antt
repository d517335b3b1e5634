use Rattle.std.proofs.Common.{◌≡◌, ◌*◌, ◌≤◌, ◌++◌, length, drop}
use Rattle.plate.specs.ReadCall.{reading}
use Rattle.plate.proofs.PlaneParts.{planes_left}
use Rattle.plate.proofs.reading.write_reading.Given as goal

abbrev pub invariant-loop-i : goal.invariant-loop-i
invariant-loop-i g l =
    let n = l.fn.shape.planes in
    let side = l.fn.shape.side in
    let i = length l.yielded in
    (l.i-iterator.iter.size ≡ side * side) × (l.i-iterator.iter.rest.now ≡ planes_left l.cells n side i) × (l.i-iterator.count ≡ i) × (i ≤ n)
    × (l.out ≡ reading g.C.PartialEq.eq g.C.Kind.byte_of i side l.cells ++ drop i l.initial.out)
