use Rattle.std.specs.Bool.{beq}
use Rattle.toom.proofs.Places.{same_counts, same_votes}
use Rattle.toom.proofs.laws.only_the_torus_counts.Goals as goal

pub returns : goal.returns
returns c = record { votes = same_votes beq; marks = same_counts }
