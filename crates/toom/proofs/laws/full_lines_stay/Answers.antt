use Rattle.toom.proofs.FullLines.{lines_stay, bound_is_sharp}
use Rattle.toom.proofs.laws.full_lines_stay.Goals as goal

pub returns : goal.returns
returns c = record { stay = lines_stay; sharp = bound_is_sharp }
