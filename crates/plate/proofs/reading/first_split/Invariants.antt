use Rattle.std.proofs.Common.{◌≡◌, ◌*◌, ◌≤◌, length, None}
use Rattle.hosts.specs.Refusal.{ask_each}
use Rattle.plate.specs.ReadCall.{plane_question}
use Rattle.plate.proofs.PlaneParts.{planes_left}
use Rattle.plate.proofs.reading.first_split.Given as goal

abbrev pub invariant-loop-i : goal.invariant-loop-i
invariant-loop-i g l =
    let n = l.fn.shape.planes in
    let side = l.fn.shape.side in
    let i = length l.yielded in
    (l.i-iterator.iter.size ≡ side * side) × (l.i-iterator.iter.rest.now ≡ planes_left l.cells n side i) × (l.i-iterator.count ≡ i) × (i ≤ n)
    × (ask_each (plane_question g.C.PartialEq.eq l.cells side) i ≡ None)
