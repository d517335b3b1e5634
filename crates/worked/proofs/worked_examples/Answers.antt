use Rattle.worked.proofs.Examples.{worked_examples}
use Rattle.worked.proofs.worked_examples.Goals as goal

pub returns : goal.returns
returns c = worked_examples c.only_the_torus_counts.ensures.votes
