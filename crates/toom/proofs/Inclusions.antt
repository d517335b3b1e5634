-- The vote keeps one shadow inside another, however often.
use Rattle.std.proofs.Common.{zero, suc, true}
use mathlib.Core.Bool.{beq}
use Rattle.toom.specs.Inclusion.{VoteKeepsInclusion}
use Rattle.toom.specs.Vote.{thinned_by}
use Rattle.toom.proofs.Votes.{heals_where, beq_same, beq_sound}

-- One vote more heals the second to `true` where the voted first is `true`.
pub keeps_inclusion : VoteKeepsInclusion
keeps_inclusion side first second inside zero = inside
keeps_inclusion side first second inside (suc j) =
    heals_where beq beq_same beq_sound true side (thinned_by j side first) (thinned_by j side second) true
    (keeps_inclusion side first second inside j)
