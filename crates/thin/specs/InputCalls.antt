-- What each call of the reader answers of a line, and what it leaves.
use Rattle.std.specs.Prelude.{◌≡◌, ℕ, ◌-◌, ◌^◌, min, true, false, ◌||◌, List, [], ◌∷◌, Some, None, Option, Result}
use Rattle.std.specs.Borrow.{Bor}
use Rattle.std.specs.Option as options
use Rattle.std.specs.Result as results
use Rattle.toom.specs.declared.shadow.Shadow.{Shadow}
use Rattle.toom.specs.Shadow.{marks, side_of_shadow, no_marks, IsShadow}
use Rattle.thin.specs.declared.input.Cause.{Cause}
use Rattle.thin.specs.declared.input.Cause.TheVariants.{NoNumber}
use Rattle.thin.specs.Input.{side_fault, said_side, place_fault, says}
use Rattle.thin.specs.Words.{words, numeral, value}

-- The first word of the line and what follows it, or none for a line with no word.
abbrev pub WordCut : List ℕ → Option (Bor (List ℕ) × Bor (List ℕ)) → Type 0
WordCut line r = options.MatchOption r (words line ≡ []) (λ cut. words line ≡ cut.0.now ∷ words cut.1.now)

-- The number that the word names, at most the largest of 64 bits.
abbrev pub NumberRead : List ℕ → Result ℕ Cause → Type 0
NumberRead word r =
    results.MatchResult r (λ n. (numeral word ≡ true) × (n ≡ min (value word) (2 ^ 64 - 1))) (λ cause. (numeral word ≡ false) × (cause ≡ NoNumber))

-- The empty shadow of the side that the line says.
abbrev pub SideRead : List ℕ → Result Shadow Cause → Type 0
SideRead line r =
    results.MatchResult r (λ shadow. (side_fault (words line) ≡ None) × IsShadow shadow (said_side (words line)) no_marks)
    (λ cause. side_fault (words line) ≡ Some cause)

-- The shadow with the place too that the line says, if it says one; as it was if the line is at fault.
abbrev pub PlaceMarked : {X : Type 0} → (before : Shadow) → List ℕ → Result X Cause → (after : Shadow) → Type 0
PlaceMarked before line r after =
    results.MatchResult r (λ _. (place_fault (side_of_shadow before) (words line) ≡ None) × IsShadow after (side_of_shadow before) (λ r c. marks before r c || says (words line) r c))
    (λ cause. (place_fault (side_of_shadow before) (words line) ≡ Some cause) × (after ≡ before))
