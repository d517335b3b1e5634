use Rattle.std.proofs.Common.{length, is_some, sym, ap, ◌∙◌}
use Rattle.std.proofs.lemmas.Bool.{cond-false}
use Rattle.hosts.proofs.Questions.{asked_first}
use Rattle.plate.specs.LayCall.{tape_questions}
use Rattle.plate.proofs.checks.check_tape.Goals as goal

pub returns-then-is_none : goal.returns-then-is_none
returns-then-is_none g c =
    let tape = c.args.tape.now in
    let none = ap is_some (sym c.from_byte.ensures) ∙ c.if-is_none.ensures in
    asked_first (tape_questions g.C.Kind.cell_of tape) (length tape) c.loop-index.index _ c.loop-index.invariant (cond-false _ _ _ none)
    c.loop-index-test.true
