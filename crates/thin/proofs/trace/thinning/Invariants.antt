use Rattle.std.proofs.Common.{◌-◌, ◌*◌, string_bytes}
use Rattle.toom.specs.Shadow.{side_of_shadow}
use Rattle.thin.proofs.Thinnings.{SoFar}
use Rattle.thin.proofs.trace.thinning.Given as goal

abbrev pub invariant-loop-text : goal.invariant-loop-text
invariant-loop-text l = SoFar l.initial.shadow l.shadow l.votes (string_bytes l.text)

abbrev pub decreases-loop-text : goal.decreases-loop-text
decreases-loop-text l = side_of_shadow l.initial.shadow * side_of_shadow l.initial.shadow - l.votes
