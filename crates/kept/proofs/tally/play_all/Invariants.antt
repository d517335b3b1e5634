use Rattle.kept.proofs.Counting.{Counted}
use Rattle.kept.proofs.tally.play_all.Given as goal

abbrev pub invariant-loop-round : goal.invariant-loop-round
invariant-loop-round g l = Counted l.fn.packed l.round-iterator.rest.now l.tally
