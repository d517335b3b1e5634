-- The text of a plane of marks: a picture of its places, and their count.
use Rattle.std.specs.Prelude.{◌≡◌, ℕ, Bool, cond, List, [], ◌∷◌, ◌++◌, map, string_bytes, codes, decimal, Result, String, OnOk}
use Rattle.std.specs.List.{range_with_len, flat_map}
use Rattle.toom.specs.Torus.{Plane, count_marks}

-- The bytes are put at the end of the text, where memory suffices.
abbrev pub Appended : {X Y Z : Type 0} → (before : String Z) → Result X Y → (after : String Z) → List ℕ → Type 0
Appended before r after bytes = OnOk r (string_bytes after ≡ string_bytes before ++ bytes)

-- `s`
abbrev pub shadow_mark : ℕ
shadow_mark = 115

-- `.`
abbrev pub clear_mark : ℕ
clear_mark = 46

-- `s` for a marked place, `.` for another.
abbrev pub mark : Bool → ℕ
mark marked = cond marked shadow_mark clear_mark

-- The first n marks of a row.
abbrev pub row_marks : Plane Bool → (row n : ℕ) → List ℕ
row_marks plane row n = map (λ column. mark (plane row column)) (range_with_len 0 n)

-- A row as a line.
abbrev pub row_line : ℕ → Plane Bool → (row : ℕ) → List ℕ
row_line side plane row = row_marks plane row side ++ (10 ∷ [])

-- The rows from row 0 on.
abbrev pub picture : ℕ → Plane Bool → List ℕ
picture side plane = flat_map (row_line side plane) (range_with_len 0 side)

-- `count`, and how many places are marked.
abbrev pub count_line : ℕ → Plane Bool → List ℕ
count_line side plane = codes "count " ++ (decimal (count_marks side plane) ++ (10 ∷ []))

-- What is printed of a plane.
abbrev pub frame : ℕ → Plane Bool → List ℕ
frame side plane = picture side plane ++ count_line side plane
