-- Full rows and columns of the torus, which no vote thins.
use Rattle.std.specs.Prelude.{◌≡◌, ℕ, ◌<◌, ◌≤◌, Bool, true, ◌==◌}
use Rattle.toom.specs.Torus.{Plane}
use Rattle.toom.specs.Vote.{thinned_by}
use Rattle.toom.specs.Triangle.{LiesInTriangle}

-- Row r of the torus is all shadow; and column c.
abbrev pub FullRow : ℕ → Plane Bool → ℕ → Type 0
FullRow side shadow r = (c : ℕ) → c < side → shadow r c ≡ true

abbrev pub FullColumn : ℕ → Plane Bool → ℕ → Type 0
FullColumn side shadow c = (r : ℕ) → r < side → shadow r c ≡ true

-- Full rows and full columns stay, however often the shadow is voted.
pub record LinesStay : Type 0 where
  pub rows : (side : ℕ) (shadow : Plane Bool) (r : ℕ) → FullRow side shadow r
      → (j : ℕ) → FullRow side (thinned_by j side shadow) r
  pub columns : (side : ℕ) (shadow : Plane Bool) (c : ℕ) → FullColumn side shadow c
      → (j : ℕ) → FullColumn side (thinned_by j side shadow) c

-- The shadow that is row 0 alone.
abbrev pub row_zero : Plane Bool
row_zero r c = r == 0

-- So a triangle need not shrink if its side is that of the torus: row 0 alone lies in the triangle of that side at (0, 0), and after any number
-- of votes in none that is smaller, wherever its corner.
pub record BoundIsSharp : Type 0 where
  pub lies : (side : ℕ) → LiesInTriangle side row_zero 0 0 side
  pub stays : (side j a b k : ℕ) → LiesInTriangle side (thinned_by j side row_zero) a b k → side ≤ k
