-- What a text says: the side of a torus on its first line, then a place a line; or its first fault.
use Rattle.std.specs.Prelude.{◌≡◌, ℕ, ◌+◌, Bool, false, cond, ◌&&◌, ◌||◌, List, [], ◌∷◌, Some, None, Option, Result, MatchResult, ◌==◌, nat_le, nat_lt}
use Rattle.toom.specs.declared.shadow.Shadow.{Shadow}
use Rattle.toom.specs.Shadow.{IsShadow}
use Rattle.toom.specs.Torus.{Plane, max_side, min_side}
use Rattle.thin.specs.declared.input.Cause.{Cause}
use Rattle.thin.specs.declared.input.Cause.TheVariants.{NoSide, WordCount, NoNumber, SideRange, OffTorus}
use Rattle.thin.specs.declared.input.InputFault.{InputFault}
use Rattle.thin.specs.Words.{lines, words, numeral, value}

-- What is wrong with the words of the first line, if anything. A number too large for a machine word is a side out of range.
abbrev pub side_fault : List (List ℕ) → Option Cause
side_fault [] = Some NoSide
side_fault (side ∷ []) =
    cond (numeral side) (cond (nat_le min_side (value side) && nat_le (value side) max_side) None (Some SideRange)) (Some NoNumber)
side_fault (side ∷ word ∷ more) = Some WordCount

-- The side that the words say, where nothing is wrong with them.
abbrev pub said_side : List (List ℕ) → ℕ
said_side [] = 0
said_side (side ∷ more) = value side

-- What is wrong with the words of a further line. A number too large for a machine word names a place off the torus.
abbrev pub place_fault : (side : ℕ) → List (List ℕ) → Option Cause
place_fault side [] = None
place_fault side (row ∷ []) = Some WordCount
place_fault side (row ∷ column ∷ []) =
    cond (numeral row && numeral column) (cond (nat_lt (value row) side && nat_lt (value column) side) None (Some OffTorus)) (Some NoNumber)
place_fault side (row ∷ column ∷ word ∷ more) = Some WordCount

-- Whether the words say the place, where nothing is wrong with them.
abbrev pub says : List (List ℕ) → Plane Bool
says [] r c = false
says (row ∷ []) r c = false
says (row ∷ column ∷ more) r c = r == value row && c == value column

-- Whether one of the lines says the place.
abbrev pub some_line_says : List (List ℕ) → Plane Bool
some_line_says [] r c = false
some_line_says (line ∷ later) r c = says (words line) r c || some_line_says later r c

-- The fault of a line, or else that of the later ones.
abbrev pub at_line : ℕ → Option Cause → Option InputFault → Option InputFault
at_line line None later = later
at_line line (Some cause) later = Some (record { line = line; cause = cause })

-- The first fault of further lines, the first of which is line n.
abbrev pub places_fault : (side n : ℕ) → List (List ℕ) → Option InputFault
places_fault side n [] = None
places_fault side n (line ∷ later) = at_line n (place_fault side (words line)) (places_fault side (n + 1) later)

-- The first fault of all lines, of which there is one at least.
abbrev pub first_fault : List (List ℕ) → Option InputFault
first_fault [] = None
first_fault (line ∷ later) = at_line 1 (side_fault (words line)) (places_fault (said_side (words line)) 2 later)

-- The shadow of the side and the places that the lines say.
abbrev pub Described : List (List ℕ) → Shadow → Type 0
Described [] shadow = ⊥
Described (line ∷ later) shadow = IsShadow shadow (said_side (words line)) (some_line_says later)

-- The shadow that the text describes, or its first fault.
abbrev pub Reads : List ℕ → Result Shadow InputFault → Type 0
Reads text r =
    MatchResult r (λ shadow. (first_fault (lines text) ≡ None) × Described (lines text) shadow) (λ fault. first_fault (lines text) ≡ Some fault)
