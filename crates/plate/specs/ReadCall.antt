-- Read: its questions, and what it writes.
use Rattle.std.specs.Prelude.{◌≡◌, ℕ, ◌*◌, Bool, cond, List, [], ◌∷◌, ◌++◌, map, length, drop, is_some, Some, None, codes, count_by, Option, nat_le, nat_lt}
use Rattle.std.specs.List.{range_with_len}
use Rattle.std.specs.Option.{option_map, unwrap_or}
use Rattle.hosts.specs.Refusal.{Refusal, ask, ask_each}
use Rattle.plate.specs.declared.laid.Laid.{Laid}
use Rattle.plate.specs.Board.{Board, standing, side_of, plane_of}

-- How many of the cells are x.
abbrev pub holders : {C : Type 0} → (C → C → Bool) → C → List C → ℕ
holders equal x cells = count_by (λ y. equal y x) cells

-- The first of the candidates that more than half of the cells are, if there is one.
abbrev pub majority_among : {C : Type 0} → (C → C → Bool) → (cells candidates : List C) → Option C
majority_among equal cells [] = None
majority_among equal cells (x ∷ xs) = cond (nat_lt (length cells) (2 * holders equal x cells)) (Some x) (majority_among equal cells xs)

-- The majority: the cell of which there are more than of all others together, if there is one. There is at most one.
abbrev pub majority_of : {C : Type 0} → (C → C → Bool) → List C → Option C
majority_of equal cells = majority_among equal cells cells

abbrev pub read_refusal : (number place : ℕ) → Refusal
read_refusal number place = record { number = number; word = codes "read"; place = place }

-- Has plane i a majority?
abbrev pub plane_question : {C : Type 0} → (C → C → Bool) → (cells : List C) → (side i : ℕ) → Option Refusal
plane_question equal cells side i = ask (is_some (majority_of equal (plane_of cells side i))) (read_refusal 16 i) None

abbrev pub read_questions_of : {C : Type 0} → (C → C → Bool) → Option Laid → (cells : List C) → (room : ℕ) → Option Refusal
read_questions_of equal None cells room = Some (read_refusal 6 0)
read_questions_of equal (Some l) cells room =
    ask (nat_le l.planes room) (read_refusal 15 0)
    (ask_each (plane_question equal cells (side_of l)) l.planes)

-- `room` is the length of the output.
abbrev pub read_questions : {C : Type 0} → (C → C → Bool) → Board C → (room : ℕ) → Option Refusal
read_questions equal b room = read_questions_of equal (standing b) b.cells room

-- The byte of each plane's majority.
abbrev pub reading : {C : Type 0} → (C → C → Bool) → (byte : C → ℕ) → (n side : ℕ) → List C → List ℕ
reading equal byte n side cells = map (λ i. unwrap_or (option_map byte (majority_of equal (plane_of cells side i))) 0) (range_with_len 0 n)

-- The reading at the front of the output, the rest of it as it was.
pub record Reads {C : Type 0} (equal : C → C → Bool) (byte : C → ℕ) (b : Board C) (before after : List ℕ) : Type 0 where
  pub stood : Laid
  pub standing_before : standing b ≡ Some stood
  pub out : after ≡ reading equal byte stood.planes (side_of stood) b.cells ++ drop stood.planes before
