-- What each call on a shadow answers, and what it leaves.
use Rattle.std.specs.Prelude.{◌≡◌, ℕ, ◌<◌, ◌≤◌, Bool, List, ◌++◌, length, drop, Option, Result}
use Rattle.std.specs.Option as options
use Rattle.std.specs.Result as results
use Rattle.toom.specs.declared.shadow.Shadow.{Shadow}
use Rattle.toom.specs.Torus.{Side}
use Rattle.toom.specs.Shadow.{marks, side_of_shadow, no_marks, with_mark, words_of, OnTorus, IsShadow}
use Rattle.toom.specs.Vote.{thinned}

-- The empty shadow of this side, or none for a side that no torus has.
abbrev pub Emptied : (side : ℕ) → Option Shadow → Type 0
Emptied side r = options.MatchOption r (Side side → ⊥) (λ s. IsShadow s side no_marks)

-- Whether the place is marked, or none for a place off the torus.
abbrev pub Asked : Shadow → (row column : ℕ) → Option Bool → Type 0
Asked s row column r =
    options.MatchOption r (OnTorus s row column → ⊥) (λ b. OnTorus s row column × (b ≡ marks s row column))

-- One place more; off the torus a refusal, and the shadow as it was.
abbrev pub Added : {X Y : Type 0} → (before : Shadow) (row column : ℕ) → Result X Y → (after : Shadow) → Type 0
Added before row column r after =
    results.MatchResult r (λ _. OnTorus before row column × IsShadow after (side_of_shadow before) (with_mark (marks before) row column))
    (λ _. (OnTorus before row column → ⊥) × (after ≡ before))

-- Every place voted, from the old marks alone.
abbrev pub Voted : (before after : Shadow) → Type 0
Voted before after = IsShadow after (side_of_shadow before) (thinned (side_of_shadow before) (marks before))

-- The row words at the front of the output, the rest of it as it was; if it is too short a refusal, and all of it as it was.
abbrev pub Written : {X Y : Type 0} → Shadow → (before : List ℕ) → Result X Y → (after : List ℕ) → Type 0
Written s before r after =
    results.MatchResult r (λ _. (side_of_shadow s ≤ length before) × (after ≡ words_of s ++ drop (side_of_shadow s) before))
    (λ _. (length before < side_of_shadow s) × (after ≡ before))
