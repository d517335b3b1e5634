-- Text that is written into bytes, from their start on.
use Rattle.std.specs.Prelude.{◌≡◌, ℕ, ◌+◌, ◌≤◌, List, [], ◌∷◌, ◌++◌, length, take, drop}
use Rattle.reports.specs.declared.text.Text.{Text}

-- There is room for these bytes.
abbrev pub Fits : Text → List ℕ → Type 0
Fits text more = text.len + length more ≤ length text.bytes.now

-- These bytes are put at the end of the text, and nothing else is touched.
pub record Appends (before : Text) (more : List ℕ) (after : Text) : Type 0 where
  pub len : after.len ≡ before.len + length more
  pub bytes : after.bytes.now ≡ take before.len before.bytes.now ++ (more ++ drop (before.len + length more) before.bytes.now)
  pub same : after.bytes.ghost_name ≡ before.bytes.ghost_name

-- Every line ends in 0A.
abbrev pub line_end : List ℕ
line_end = 10 ∷ []
