use Rattle.hosts.proofs.TuringSteps.{steps_as_turing}
use Rattle.hosts.proofs.laws.steps_as_turing.Goals as goal

pub returns : goal.returns
returns c = steps_as_turing
