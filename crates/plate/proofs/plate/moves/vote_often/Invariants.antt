use Rattle.plate.specs.BeatsCall.{VotedBy}
use Rattle.plate.proofs.plate.moves.vote_often.Given as goal

abbrev pub invariant-loop : goal.invariant-loop
invariant-loop l = VotedBy l.counter l.initial.shadow l.shadow

abbrev pub invariant-loop-2 : goal.invariant-loop-2
invariant-loop-2 l = VotedBy l.counter l.fn.shadow l.shadow
