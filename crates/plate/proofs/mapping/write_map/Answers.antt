use Rattle.std.proofs.Common.{◌≡◌, ◌*◌, ◌++◌, length, drop, ◌∙◌, subst, inl, inr, arith}
use Rattle.std.proofs.lemmas.List.{length_push}
use Rattle.plate.proofs.Hurts.{CountedBelow, uncleared, counts_low, counted_more, counted_all}
use Rattle.plate.proofs.PlaneParts.{area_some, plane_taken, planes_taken, line_taken, line_ends}
use Rattle.plate.proofs.mapping.write_map.Goals as goal

pub add_hurt-requires-clause-low : goal.add_hurt-requires-clause-low
add_hurt-requires-clause-low g c k h =
    let inv = c.loop-plane.invariant in
    counts_low g.C.PartialEq.eq c.args.shape.planes c.args.shape.side c.args.cells.now _ c.loop-plane.out (length c.loop-plane.yielded)
    inv.4 (omega (arith, inv.3)) c.in-Some.cell.now k (omega (arith, c.in-Some.ensures.steps.0.1.1, inv.0))

pub loop-plane-preserved : goal.loop-plane-preserved
loop-plane-preserved g c =
    let n = c.args.shape.planes in
    let side = c.args.shape.side in
    let cells = c.args.cells.now in
    let i = length c.loop-plane.yielded in
    let inv = c.loop-plane.invariant in
    let steps = c.in-Some.ensures.steps in
    let long : length c.in-Some.plane.now ≡ side * side = steps.0.1.1 ∙ inv.0 in
    let plane =
    plane_taken cells n side c.requires.size (area_some side c.args.shape.sized.0) c.loop-plane.plane-iterator.a.rest.now
    c.in-Some.plane.now c.next.new.self.a.rest.now i inv.1 steps.0.1.0 long in
    let cell =
    line_taken cells n side c.requires.size c.loop-plane.plane-iterator.b.rest.now c.next.new.self.b.rest.now i
    c.in-Some.cell.now inv.2 steps.1 in
    rw (length_push c.loop-plane.yielded (c.in-Some.plane, c.in-Some.cell)) (
      steps.0.0 ∙ inv.0,
      plane.2,
      cell.1,
      omega (arith, plane.0),
      counted_more g.C.PartialEq.eq n side cells _ c.loop-plane.out i c.in-Some.plane.now c.in-Some.cell.now long plane.1 plane.0
          c.requires.size cell.0 inv.4 _ c.add_hurt.ensures.places c.add_hurt.ensures.rest,
    )

pub returns : goal.returns
returns g c =
    let n = c.args.shape.planes in
    let side = c.args.shape.side in
    let cells = c.args.cells.now in
    let inv = c.loop-plane.invariant in
    let all : length c.loop-plane.yielded ≡ n =
    elim c.in-None.ensures.steps [
      | inl p ↦ planes_taken cells n side c.requires.size c.loop-plane.plane-iterator.a.rest.now (length c.loop-plane.yielded) inv.1
          (omega (arith, p.1.1.0, inv.0)) inv.3
      | inr q ↦ line_ends cells n side c.requires.size c.loop-plane.plane-iterator.b.rest.now (length c.loop-plane.yielded) inv.2 q.1.0 inv.3
    ] in
    counted_all g.C.PartialEq.eq n side cells c.args.out.now _ c.loop-plane.out
    (subst (λ i. CountedBelow g.C.PartialEq.eq n side cells (c.fill.new.self ++ drop c.area-area.result c.args.out.now) i c.loop-plane.out) all inv.4) (λ k h. uncleared c.fill.new.self c.args.out.now c.area-area.result (omega arith) (c.fill.ensures.after (λ y e. e)) k (omega arith)) (omega arith) c.requires.room
