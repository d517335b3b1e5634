-- One shadow inside another, and that the vote keeps it so.
use Rattle.std.specs.Prelude.{◌≡◌, ℕ, Bool, true}
use Rattle.toom.specs.Torus.{Plane, Everywhere}
use Rattle.toom.specs.Vote.{thinned_by}

-- Every place of the first is one of the second.
abbrev pub Inside : ℕ → (first second : Plane Bool) → Type 0
Inside side first second = Everywhere side (λ r c. first r c ≡ true → second r c ≡ true)

-- A smaller shadow votes into a smaller shadow, however often.
abbrev pub VoteKeepsInclusion : Type 0
VoteKeepsInclusion =
    (side : ℕ) (first second : Plane Bool) → Inside side first second
    → (j : ℕ) → Inside side (thinned_by j side first) (thinned_by j side second)
