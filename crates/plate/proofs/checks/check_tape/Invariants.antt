use Rattle.std.proofs.Common.{◌≡◌, None}
use Rattle.hosts.specs.Refusal.{ask_each}
use Rattle.plate.specs.LayCall.{tape_questions}
use Rattle.plate.proofs.checks.check_tape.Given as goal

abbrev pub invariant-loop-index : goal.invariant-loop-index
invariant-loop-index g l = ask_each (tape_questions g.C.Kind.cell_of l.tape) l.index ≡ None
