-- The shadow as a plane of bits: its side and its marked places, which determine it.
use Rattle.std.specs.Prelude.{◌≡◌, ℕ, ◌<◌, Bool, false, ◌&&◌, ◌||◌, List, map, ◌==◌, nat_eq, slice_index}
use Rattle.std.specs.Cmp.Lexicographic.{pointwise}
use Rattle.std.specs.List.{range_with_len}
use Rattle.toom.specs.declared.shadow.Shadow.{Shadow}
use Rattle.toom.specs.Rows.{column, row_word}
use Rattle.toom.specs.Torus.{Plane, SameOnTorus, Side}

-- The side of its torus.
abbrev pub side_of_shadow : Shadow → ℕ
side_of_shadow s = s.side

-- Whether the place is in the shadow.
abbrev pub marks : Shadow → Plane Bool
marks s r c = column (slice_index s.rows r) c

-- The place is one of the torus.
abbrev pub OnTorus : Shadow → (row column : ℕ) → Type 0
OnTorus s row column = (row < side_of_shadow s) × (column < side_of_shadow s)

-- The shadow of this side with these marks. There is one: MarksPin.
pub record IsShadow (s : Shadow) (side : ℕ) (plane : Plane Bool) : Type 0 where
  pub sides : side_of_shadow s ≡ side
  pub places : SameOnTorus side (marks s) plane

abbrev pub no_marks : Plane Bool
no_marks r c = false

-- The marks with one place more.
abbrev pub with_mark : Plane Bool → (row column : ℕ) → Plane Bool
with_mark plane row column r c = plane r c || (r == row && c == column)

-- The row words of a shadow, from row 0 on.
abbrev pub words_of : Shadow → List ℕ
words_of s = map (λ r. row_word (side_of_shadow s) (marks s r)) (range_with_len 0 (side_of_shadow s))

-- Whether two shadows are the same.
abbrev pub equal_shadows : (s t : Shadow) → Bool
equal_shadows s t = s.side == t.side && pointwise nat_eq s.rows t.rows

-- A shadow is its side and its marked places, and nothing else.
abbrev pub MarksPin : Type 0
MarksPin =
    (s t : Shadow) (side : ℕ) (plane : Plane Bool) → IsShadow s side plane → IsShadow t side plane → s ≡ t

-- Its side is one that a torus may have.
abbrev pub SidesFit : Type 0
SidesFit = (s : Shadow) → Side (side_of_shadow s)
