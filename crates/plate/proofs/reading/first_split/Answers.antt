use Rattle.std.proofs.Common.{◌≡◌, ◌+◌, length, Some, None, sym, ap, ◌∙◌, subst, arith}
use Rattle.std.proofs.lemmas.List.{length_push}
use Rattle.hosts.specs.Refusal.{ask_each}
use Rattle.hosts.proofs.Questions.{asked_more, asked_first}
use Rattle.plate.specs.ReadCall.{plane_question, read_refusal}
use Rattle.plate.proofs.PlaneParts.{area_some, plane_taken, planes_taken}
use Rattle.plate.proofs.Readings.{whole, split}
use Rattle.plate.proofs.reading.first_split.Goals as goal

pub loop-i-preserved : goal.loop-i-preserved
loop-i-preserved g c =
    let equal = g.C.PartialEq.eq in
    let n = c.args.shape.planes in
    let side = c.args.shape.side in
    let cells = c.args.cells.now in
    let i = length c.loop-i.yielded in
    let inv = c.loop-i.invariant in
    let steps = c.in-Some.ensures.steps in
    let plane =
    plane_taken cells n side c.requires (area_some side c.args.shape.sized.0) c.loop-i.i-iterator.iter.rest.now
    c.in-Some.plane.now c.next.new.self.iter.rest.now i inv.1 steps.0.1.0 (steps.0.1.1 ∙ inv.0) in
    rw (length_push c.loop-i.yielded (c.in-Some.i, c.in-Some.plane)) (
      steps.0.0 ∙ inv.0,
      plane.2,
      steps.2 ∙ ap (λ m. m + 1) inv.2,
      omega (arith, plane.0),
      asked_more (plane_question equal cells side) i inv.4 (whole equal cells side i c.in-Some.plane.now plane.1 c.majority.result c.majority.ensures c.if-is_none.ensures),
    )

pub returns-then-is_none : goal.returns-then-is_none
returns-then-is_none g c =
    let equal = g.C.PartialEq.eq in
    let n = c.args.shape.planes in
    let side = c.args.shape.side in
    let cells = c.args.cells.now in
    let i = length c.loop-i.yielded in
    let inv = c.loop-i.invariant in
    let steps = c.in-Some.ensures.steps in
    let plane =
    plane_taken cells n side c.requires (area_some side c.args.shape.sized.0) c.loop-i.i-iterator.iter.rest.now
    c.in-Some.plane.now c.next.new.self.iter.rest.now i inv.1 steps.0.1.0 (steps.0.1.1 ∙ inv.0) in
    asked_first (plane_question equal cells side) n i _ inv.4
    (split equal cells side i c.in-Some.plane.now plane.1 c.majority.result c.majority.ensures c.if-is_none.ensures) plane.0
    ∙ ap (λ k. Some (read_refusal 16 k)) (sym (steps.1 ∙ inv.2))

pub returns : goal.returns
returns g c =
    let n = c.args.shape.planes in
    let side = c.args.shape.side in
    let cells = c.args.cells.now in
    let inv = c.loop-i.invariant in
    let all =
    planes_taken cells n side c.requires c.loop-i.i-iterator.iter.rest.now (length c.loop-i.yielded) inv.1
    (omega (arith, c.in-None.ensures.steps.0.1.0, inv.0)) inv.3 in
    subst (λ k. ask_each (plane_question g.C.PartialEq.eq cells side) k ≡ None) all inv.4
