use Rattle.kept.proofs.Pairs.{pins}
use Rattle.kept.proofs.kept.Kept.new.Goals as goal

pub returns-clause-pinned : goal.returns-clause-pinned
returns-clause-pinned c = pins
