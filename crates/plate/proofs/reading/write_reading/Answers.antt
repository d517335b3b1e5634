use Rattle.std.proofs.Common.{◌≡◌, ◌+◌, ◌++◌, length, drop, unwrap_or, ap, ◌∙◌, subst, arith, rules}
use Rattle.std.proofs.lemmas.List.{length_push}
use Rattle.std.specs.Option.{option_map}
use Rattle.plate.specs.ReadCall.{reading}
use Rattle.plate.proofs.PlaneParts.{area_some, plane_taken, planes_taken}
use Rattle.plate.proofs.Readings.{swept_more, reads}
use Rattle.plate.proofs.reading.write_reading.Goals as goal

pub loop-i-preserved : goal.loop-i-preserved
loop-i-preserved g c =
    let byte = g.C.Kind.byte_of in
    let n = c.args.shape.planes in
    let side = c.args.shape.side in
    let cells = c.args.cells.now in
    let i = length c.loop-i.yielded in
    let inv = c.loop-i.invariant in
    let steps = c.in-Some.ensures.steps in
    let plane =
    plane_taken cells n side c.requires.size (area_some side c.args.shape.sized.0) c.loop-i.i-iterator.iter.rest.now
    c.in-Some.plane.now c.next.new.self.iter.rest.now i inv.1 steps.0.1.0 (steps.0.1.1 ∙ inv.0) in
    let read : c.map_or.result ≡ unwrap_or (option_map byte c.majority.result) 0 = search rules in
    rw (length_push c.loop-i.yielded (c.in-Some.i, c.in-Some.plane)) (
      steps.0.0 ∙ inv.0,
      plane.2,
      steps.2 ∙ ap (λ m. m + 1) inv.2,
      omega (arith, plane.0),
      swept_more _ c.args.out.now c.loop-i.out (length c.loop-i.yielded) c.in-Some.i 0 c.map_or.result inv.4 (steps.1 ∙ inv.2) (omega (arith, plane.0))
          (read ∙ reads g.C.PartialEq.eq cells side i c.in-Some.plane.now plane.1 c.majority.result c.majority.ensures byte),
    )

pub returns : goal.returns
returns g c =
    let n = c.args.shape.planes in
    let side = c.args.shape.side in
    let cells = c.args.cells.now in
    let inv = c.loop-i.invariant in
    let all =
    planes_taken cells n side c.requires.size c.loop-i.i-iterator.iter.rest.now (length c.loop-i.yielded) inv.1
    (omega (arith, c.in-None.ensures.steps.0.1.0, inv.0)) inv.3 in
    subst (λ k. c.loop-i.out ≡ reading g.C.PartialEq.eq g.C.Kind.byte_of k side cells ++ drop k c.args.out.now) all inv.4
