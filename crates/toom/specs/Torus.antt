-- A torus of `side` rows and `side` columns, and planes over it.
use Rattle.std.specs.Prelude.{◌≡◌, ℕ, zero, suc, ◌+◌, ◌%◌, ◌<◌, ◌≤◌, Bool, cond}

-- A torus has 2 to 64 rows, and as many columns.
abbrev pub min_side : ℕ
min_side = 2

abbrev pub max_side : ℕ
max_side = 64

abbrev pub Side : ℕ → Type 0
Side side = (min_side ≤ side) × (side ≤ max_side)

-- A plane has a cell at each place, a row and a column. Only the places below the side count.
abbrev pub Plane : Type 0 → Type 0
Plane C = ℕ → ℕ → C

-- The row or column after i, round the torus: north is the next row, east the next column.
abbrev pub next : (side i : ℕ) → ℕ
next side i = (i + 1) % side

-- P holds at each place of the torus.
abbrev pub Everywhere : ℕ → (ℕ → ℕ → Type 0) → Type 0
Everywhere side P = (r c : ℕ) → r < side → c < side → P r c

-- Two planes are the same on the torus: at each of its places.
abbrev pub SameOnTorus : {C : Type 0} → ℕ → (plane other : Plane C) → Type 0
SameOnTorus side plane other = Everywhere side (λ r c. plane r c ≡ other r c)

-- f 0 + f 1 + .. + f (n - 1)
abbrev pub total : (ℕ → ℕ) → ℕ → ℕ
total f zero = 0
total f (suc n) = total f n + f n

-- How many places of the torus are marked.
abbrev pub count_marks : ℕ → Plane Bool → ℕ
count_marks side plane = total (λ r. total (λ c. cond (plane r c) 1 0) side) side

-- Planes that are the same on the torus have as many marks there.
abbrev pub SameCounts : Type 0
SameCounts =
    (side : ℕ) (plane other : Plane Bool) → SameOnTorus side plane other
    → count_marks side plane ≡ count_marks side other
