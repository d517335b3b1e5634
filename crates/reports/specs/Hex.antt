-- Bytes in hexadecimal.
use Rattle.std.specs.Prelude.{ℕ, ◌/◌, ◌%◌, List, [], ◌∷◌}
use Rattle.std.specs.Char.{digit_char}

-- A byte as two digits, `0` to `9` and `a` to `f`, the higher first.
abbrev pub pair : ℕ → List ℕ
pair byte = digit_char (byte / 16) ∷ digit_char (byte % 16) ∷ []
