use Rattle.std.proofs.Common.{inl, inr, arith}
use Rattle.plate.proofs.SweptEdges.{across_more}
use Rattle.plate.proofs.SweptPlaces.{voted_same}
use Rattle.plate.proofs.sweep.vote_across.Goals as goal

pub loop-j-preserved : goal.loop-j-preserved
loop-j-preserved g c =
    across_more g.C.PartialEq.eq c.args.shape.planes c.args.shape.side (omega arith) c.args.cells.now c.loop-j.cells c.vote_place.new.cells
    c.vote_place-in-loop-j.new.cells c.loop-j.j (omega arith) c.loop-j.invariant c.vote_place.ensures c.vote_place-in-loop-j.ensures

pub returns : goal.returns
returns g c =
    voted_same g.C.PartialEq.eq c.args.shape.planes c.args.shape.side _ _ c.args.cells.now c.loop-j.cells c.loop-j.invariant
    (λ i r q hi hr hq a. elim a [ inl a ↦ inl (omega arith, a.1) | inr a ↦ inr (a.0, omega arith) ])
    λ i r q hi hr hq b. elim b [ inl b ↦ inl (omega arith, b.1) | inr b ↦ inr (b.0, omega arith) ]
