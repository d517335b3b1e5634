-- Map: its questions, and what it writes.
use Rattle.std.specs.Prelude.{◌≡◌, ℕ, ◌+◌, ◌*◌, Bool, List, ◌++◌, map, drop, Some, None, codes, Option, nat_le, slice_index_or}
use Rattle.std.specs.List.{range_with_len}
use Rattle.toom.specs.Torus.{total}
use Rattle.toom.specs.Vote.{wounded}
use Rattle.hosts.specs.Refusal.{Refusal, ask}
use Rattle.plate.specs.declared.laid.Laid.{Laid}
use Rattle.plate.specs.BeatCall.{line}
use Rattle.plate.specs.Board.{Board, standing, side_of}

abbrev pub map_refusal : (number : ℕ) → Refusal
map_refusal number = record { number = number; word = codes "map"; place = 0 }

abbrev pub map_questions_of : Option Laid → (room : ℕ) → Option Refusal
map_questions_of None room = Some (map_refusal 6)
map_questions_of (Some l) room = ask (nat_le (side_of l * side_of l) room) (map_refusal 15) None

abbrev pub map_questions : {C : Type 0} → Board C → (room : ℕ) → Option Refusal
map_questions b room = map_questions_of (standing b) room

-- How many planes' copies at place j, counted row by row, differ from their cell of the line.
abbrev pub hurt_at : {C : Type 0} → (C → C → Bool) → (n side : ℕ) → List C → C → ℕ → ℕ
hurt_at equal n side cells d j = total (λ i. wounded equal (line cells n side d i) (slice_index_or cells (i * (side * side) + j) d)) n

-- The counts at the front of the output, the rest of it as it was.
pub record Maps {C : Type 0} (equal : C → C → Bool) (b : Board C) (before after : List ℕ) : Type 0 where
  pub stood : Laid
  pub standing_before : standing b ≡ Some stood
  pub out : (d : C) → after ≡ map (hurt_at equal stood.planes (side_of stood) b.cells d) (range_with_len 0 (side_of stood * side_of stood))
      ++ drop (side_of stood * side_of stood) before
