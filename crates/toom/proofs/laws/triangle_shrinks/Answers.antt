use Rattle.toom.proofs.Triangles.{triangle_shrinks, triangle_vanishes}
use Rattle.toom.proofs.laws.triangle_shrinks.Goals as goal

pub returns : goal.returns
returns c = record { shrinks = triangle_shrinks; vanishes = triangle_vanishes }
