-- The right triangle on the torus, and that a shadow in one shrinks with each vote.
use Rattle.std.specs.Prelude.{◌≡◌, ℕ, ◌+◌, ◌-◌, ◌%◌, ◌<◌, ◌≤◌, Bool, true, false}
use Rattle.toom.specs.Torus.{Plane, Everywhere}
use Rattle.toom.specs.Vote.{thinned_by}

-- The place (r, c) is in the right triangle of side k at (a, b): u steps north and v steps east lead to it from there, for some u + v < k.
abbrev pub InTriangle : (side a b k r c : ℕ) → Type 0
InTriangle side a b k r c = (u : ℕ) × (v : ℕ) × (u + v < k) × (r ≡ (a + u) % side) × (c ≡ (b + v) % side)

-- Every place of the shadow lies in that triangle.
abbrev pub LiesInTriangle : ℕ → Plane Bool → (a b k : ℕ) → Type 0
LiesInTriangle side shadow a b k = Everywhere side (λ r c. shadow r c ≡ true → InTriangle side a b k r c)

-- The triangle shrinks: a shadow in one of side k, k below the side of the torus, lies after j votes, j at most k, in the one of side k - j at
-- the same corner. So after k votes it is empty, for no place lies in a triangle of side 0.
abbrev pub TriangleShrinks : Type 0
TriangleShrinks =
    (side : ℕ) (shadow : Plane Bool) (a b k j : ℕ) → k < side → j ≤ k → LiesInTriangle side shadow a b k
    → LiesInTriangle side (thinned_by j side shadow) a b (k - j)

abbrev pub TriangleVanishes : Type 0
TriangleVanishes =
    (side : ℕ) (shadow : Plane Bool) (a b k : ℕ) → k < side → LiesInTriangle side shadow a b k
    → Everywhere side (λ r c. thinned_by k side shadow r c ≡ false)
