use Rattle.toom.proofs.Inclusions.{keeps_inclusion}
use Rattle.toom.proofs.laws.inclusion_is_kept.Goals as goal

pub returns : goal.returns
returns c = keeps_inclusion
