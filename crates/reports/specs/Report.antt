-- The text of a report.
use Rattle.std.specs.Prelude.{ℕ, ◌+◌, ◌*◌, Bool, cond, List, ◌++◌, map, Some, None, codes, decimal, Option, nat_lt}
use Rattle.std.specs.List.{range_with_len, flat_map}
use Rattle.toom.specs.Shadow.{marks}
use Rattle.toom.specs.Torus.{Plane, count_marks, total}
use Rattle.hosts.specs.Refusal.{Refusal, ask_each}
use Rattle.plate.specs.declared.laid.Laid.{Laid}
use Rattle.plate.specs.Board.{side_of}
use Rattle.plate.specs.MapCall.{hurt_at}
use Rattle.plate.specs.Members.{Members}
use Rattle.plate.specs.ReadCall.{plane_question, reading}
use Rattle.reports.specs.Hex.{pair}
use Rattle.reports.specs.Text.{line_end}

abbrev pub ended : List ℕ → List ℕ
ended line = line ++ line_end

-- A word and a number in plain decimal.
abbrev pub number_line : (word : List ℕ) → ℕ → List ℕ
number_line word n = ended (word ++ decimal n)

-- `#`
abbrev pub hurt_mark : ℕ
hurt_mark = 35

-- `s`
abbrev pub shadow_mark : ℕ
shadow_mark = 115

-- `.`
abbrev pub clear_mark : ℕ
clear_mark = 46

-- The mark of a place with so many hurt copies: `#` if there are any; if there are none, `s` for a place in the shadow and `.` for any other.
abbrev pub place_mark : (hurt : ℕ) → (shadowed : Bool) → ℕ
place_mark hurt shadowed = cond (nat_lt 0 hurt) hurt_mark (cond shadowed shadow_mark clear_mark)

-- The marks of row r. The map has `hurts j` at place j, counted row by row.
abbrev pub row_line : (side : ℕ) → (hurts : ℕ → ℕ) → (shadow : Plane Bool) → (r : ℕ) → List ℕ
row_line side hurts shadow r = ended (map (λ c. place_mark (hurts (r * side + c)) (shadow r c)) (range_with_len 0 side))

abbrev pub rows : (side : ℕ) → (hurts : ℕ → ℕ) → (shadow : Plane Bool) → List ℕ
rows side hurts shadow = flat_map (row_line side hurts shadow) (range_with_len 0 side)

-- The reading; or, if some plane has no majority, the first that has none.
abbrev pub tape_line : (tape : List ℕ) → List ℕ
tape_line tape = ended (codes "tape " ++ flat_map pair tape)

abbrev pub last_line : Option Refusal → (tape : List ℕ) → List ℕ
last_line None tape = tape_line tape
last_line (Some refusal) tape = number_line (codes "no majority ") refusal.place

-- The age, the number of places in the shadow, the sum of the map, the marks, the reading.
abbrev pub page : (age side : ℕ) → (hurts : ℕ → ℕ) → (shadow : Plane Bool) → (last : List ℕ) → List ℕ
page age side hurts shadow last =
    number_line (codes "age ") age
    ++ (number_line (codes "shadow ") (count_marks side shadow)
    ++ (number_line (codes "hurt ") (total hurts (side * side))
    ++ (rows side hurts shadow ++ last)))

-- The last line of the report of a laid plate with these cells.
abbrev pub last_of : {C : Type 0} → Members C → Laid → List C → List ℕ
last_of k l cells =
    last_line (ask_each (plane_question k.equal cells (side_of l)) l.planes) (reading k.equal k.byte l.planes (side_of l) cells)

-- The whole report. d stands for what lies past the memory.
abbrev pub report_of : {C : Type 0} → Members C → Laid → List C → C → List ℕ
report_of k l cells d =
    page l.age (side_of l) (hurt_at k.equal l.planes (side_of l) cells d) (marks l.shadow) (last_of k l cells)
