use Rattle.toom.proofs.RowVotes.{VotedBelow}
use Rattle.toom.proofs.rows.vote_rows.Given as goal

abbrev pub invariant-loop-r : goal.invariant-loop-r
invariant-loop-r l = VotedBelow l.side l.initial.rows l.r l.rows
