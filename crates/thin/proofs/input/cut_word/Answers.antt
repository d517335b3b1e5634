use Rattle.std.proofs.Common.{sym, ◌∙◌}
use Rattle.std.proofs.lemmas.List.{take_rest}
use Rattle.thin.proofs.Pieces.{no_word, word_ended, word_last}
use Rattle.thin.proofs.input.cut_word.Goals as goal

pub returns-in_err-start : goal.returns-in_err-start
returns-in_err-start c = rw c.from_residual.ensures (no_word c.args.line.now (sym c.word_start.ensures ∙ c.in_err-start.was))

pub returns-in-Some : goal.returns-in-Some
returns-in-Some c =
    let start = take_rest c.args.line.now c.in_ok-start.field-0 in
    let at = sym c.word_start.ensures ∙ c.in_ok-start.was in
    simp take_rest (word_ended c.args.line.now at (simp take_rest at (sym c.word_end.ensures ∙ c.in-Some.is)))

pub returns-in-None : goal.returns-in-None
returns-in-None c =
    let at = sym c.word_start.ensures ∙ c.in_ok-start.was in
    simp take_rest (word_last c.args.line.now at (simp take_rest at (sym c.word_end.ensures ∙ c.in-None.is)))
