-- The stretches of a shadow: which is the next from a place on, and what the reader of them answers.
use Rattle.std.specs.Prelude.{◌≡◌, ℕ, ◌+◌, ◌-◌, ◌*◌, ◌<◌, ◌≤◌, ◌⊎◌, min, true, false, Option, MatchOption}
use Rattle.toom.specs.declared.shadow.Shadow.{Shadow}
use Rattle.toom.specs.declared.shadow.stretches.Stretch.{Stretch}
use Rattle.toom.specs.declared.shadow.stretches.Stretches.{Stretches}
use Rattle.toom.specs.Shadow.{marks, side_of_shadow}
use Rattle.toom.specs.Torus.{max_side, Everywhere}

-- The place (r, c) comes before the place (row, column), row by row.
abbrev pub Before : (r c row column : ℕ) → Type 0
Before r c row column = (r < row) ⊎ ((r ≡ row) × (c < column))

-- No place from (row, column) on is marked.
abbrev pub ClearFrom : Shadow → (row column : ℕ) → Type 0
ClearFrom s row column = Everywhere (side_of_shadow s) (λ r c. (Before r c row column → ⊥) → marks s r c ≡ false)

-- No place from (row, column) on, and before (to, end), is marked.
abbrev pub ClearBetween : Shadow → (row column to end : ℕ) → Type 0
ClearBetween s row column to end =
    Everywhere (side_of_shadow s) (λ r c. (Before r c row column → ⊥) → Before r c to end → marks s r c ≡ false)

-- The first stretch from (row, column) on, as long as can be: it ends at the last column, or before a place that is not marked.
pub record FirstStretch (s : Shadow) (row column : ℕ) (x : Stretch) : Type 0 where
  pub within : x.row < side_of_shadow s
  pub wide : x.column + x.length ≤ side_of_shadow s
  pub some : 1 ≤ x.length
  pub onwards : Before x.row x.column row column → ⊥
  pub marked : (c : ℕ) → x.column ≤ c → c < x.column + x.length → marks s x.row c ≡ true
  pub clear : ClearBetween s row column x.row x.column
  pub ends : x.column + x.length < side_of_shadow s → marks s x.row (x.column + x.length) ≡ false

-- What the reader answers, and where it stands then: the first stretch from its place on, and right behind that one; where no place from there on
-- is marked, none, and behind the last row, so none for good.
abbrev pub YieldsStretch : (before : Stretches) → Option Stretch → (after : Stretches) → Type 0
YieldsStretch before r after =
    MatchOption r
    (ClearFrom before.shadow.now before.row before.column × (after.shadow ≡ before.shadow)
    × (side_of_shadow before.shadow.now ≤ after.row))
    (λ x. FirstStretch before.shadow.now before.row before.column x × (after.shadow ≡ before.shadow)
    × (after.row ≡ x.row) × (after.column ≡ x.column + x.length))

-- No more stretches come than this: at most as many as there are places from where it stands on, with each row as wide as a row can be.
abbrev pub places_left : Stretches → ℕ
places_left s = (side_of_shadow s.shadow.now - s.row) * max_side - min s.column max_side
