-- What the reader of lines gives.
use Rattle.std.specs.Prelude.{◌≡◌, List, ℕ, [], ◌∷◌, Option}
use Rattle.std.specs.Borrow.{Bor}
use Rattle.std.specs.Option as options
use Rattle.thin.specs.declared.lines.Lines.{Lines}
use Rattle.thin.specs.Words.{later_lines}

-- The lines that are left.
abbrev pub lines_left : Lines → List (List ℕ)
lines_left s = later_lines (options.option_map (λ x. x.now) s.rest)

-- The first line that is left, and none after the last: nothing is left then.
abbrev pub LineGiven : (before : Lines) → Option (Bor (List ℕ)) → (after : Lines) → Type 0
LineGiven before r after =
    options.MatchOption r ((lines_left before ≡ []) × (lines_left after ≡ [])) (λ line. lines_left before ≡ line.now ∷ lines_left after)
