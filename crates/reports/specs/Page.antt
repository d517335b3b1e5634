-- The page as the code has its parts: the map as a list, and the reading or the first plane that has no majority.
use Rattle.std.specs.Prelude.{ℕ, List, [], map, None, Some, Ok, Err, Result, slice_index}
use Rattle.std.specs.Borrow.{Bor}
use Rattle.std.specs.List.{range_with_len}
use Rattle.toom.specs.declared.shadow.Shadow.{Shadow}
use Rattle.toom.specs.Shadow.{marks, side_of_shadow}
use Rattle.plate.specs.declared.laid.Laid.{Laid}
use Rattle.plate.specs.Board.{side_of}
use Rattle.plate.specs.ReadCall.{read_refusal}
use Rattle.reports.specs.Report.{ended, last_line, page, place_mark}

-- The marks of a row, whose part of the map this is.
abbrev pub marked_line : (hurts : List ℕ) → Shadow → (row : ℕ) → List ℕ
marked_line hurts s row = ended (map (λ c. place_mark (slice_index hurts c) (marks s row c)) (range_with_len 0 (side_of_shadow s)))

-- The last line.
abbrev pub reading_line : Result (Bor (List ℕ)) ℕ → List ℕ
reading_line (Ok tape) = last_line None tape.now
reading_line (Err plane) = last_line (Some (read_refusal 16 plane)) []

abbrev pub page_of : Laid → (hurts : List ℕ) → Result (Bor (List ℕ)) ℕ → List ℕ
page_of l hurts reading = page l.age (side_of l) (λ j. slice_index hurts j) (marks l.shadow) (reading_line reading)
