-- The lines of a text, the words of a line, and the number that a word names.
use Rattle.std.specs.Prelude.{ℕ, ◌+◌, ◌-◌, ◌*◌, Bool, cond, ◌||◌, List, [], ◌∷◌, Some, None, fold, Option, ◌==◌}
use Rattle.std.specs.Str.{all_ascii_digits}

-- The byte put before the first piece.
abbrev pub put_first : ℕ → List (List ℕ) → List (List ℕ)
put_first byte [] = (byte ∷ []) ∷ []
put_first byte (piece ∷ pieces) = (byte ∷ piece) ∷ pieces

-- The pieces between the bytes that cut: one more than there are such bytes.
abbrev pub pieces : (cuts : ℕ → Bool) → List ℕ → List (List ℕ)
pieces cuts [] = [] ∷ []
pieces cuts (byte ∷ bytes) = cond (cuts byte) ([] ∷ pieces cuts bytes) (put_first byte (pieces cuts bytes))

-- The pieces that are not empty.
abbrev pub full : List (List ℕ) → List (List ℕ)
full [] = []
full ([] ∷ pieces) = full pieces
full ((byte ∷ piece) ∷ pieces) = (byte ∷ piece) ∷ full pieces

-- 0A ends a line. What follows the last 0A is a line too, often empty.
abbrev pub ends_line : ℕ → Bool
ends_line byte = byte == 10

-- The lines, in order.
abbrev pub lines : List ℕ → List (List ℕ)
lines text = pieces ends_line text

-- The lines after a line, of what follows its end if it has one.
abbrev pub later_lines : Option (List ℕ) → List (List ℕ)
later_lines None = []
later_lines (Some rest) = lines rest

-- Space, tab and carriage return part words.
abbrev pub is_blank : ℕ → Bool
is_blank byte = byte == 32 || (byte == 9 || byte == 13)

-- The words of a line, in order.
abbrev pub words : List ℕ → List (List ℕ)
words line = full (pieces is_blank line)

-- The word is of decimal digits.
abbrev pub numeral : List ℕ → Bool
numeral word = all_ascii_digits word

-- The number that the digits name, however large.
abbrev pub value : List ℕ → ℕ
value word = fold (λ n digit. n * 10 + (digit - 48)) 0 word
