use Rattle.plate.specs.Plates.{members}
use Rattle.plate.proofs.Heals.{always_heals}
use Rattle.plate.proofs.laws.always_heals.Goals as goal

pub returns : goal.returns
returns g c =
    let met = g.met.C.Kind in
    always_heals (members g.C.PartialEq.eq g.C.Kind.byte_of g.C.Kind.cell_of) met.reflexive met.exact
    c.vote_heals.ensures.planes c.only_the_torus_counts.ensures.votes c.triangle_shrinks.ensures.shrinks
