-- Lay: its questions, and what it leaves.
use Rattle.std.specs.Prelude.{◌≡◌, ℕ, ◌<◌, ◌≤◌, ◌&&◌, List, length, is_some, Some, None, codes, Option, ◌==◌, nat_le, slice_index, slice_index_or}
use Rattle.toom.specs.Shadow.{IsShadow, no_marks}
use Rattle.toom.specs.Torus.{max_side, min_side}
use Rattle.hosts.specs.Refusal.{Refusal, ask, ask_each}
use Rattle.plate.specs.declared.laid.Laid.{Laid}
use Rattle.plate.specs.Board.{Board}
use Rattle.plate.specs.Layout.{copy_at, voted_at, line_at, earlier_at, size_of}

abbrev pub lay_refusal : (number place : ℕ) → Refusal
lay_refusal number place = record { number = number; word = codes "lay"; place = place }

-- A plate has 1 to 4,096 planes. A round file counts them in 12 bits.
abbrev pub max_planes : ℕ
max_planes = 4096

-- `named` gives the cell of a byte.
abbrev pub tape_questions : {C : Type 0} → (named : ℕ → Option C) → (tape : List ℕ) → ℕ → Option Refusal
tape_questions named tape i = ask (is_some (named (slice_index tape i))) (lay_refusal 5 i) None

abbrev pub lay_questions : {C : Type 0} → (named : ℕ → Option C) → (n side : ℕ) → (tape : List ℕ) → (memory : ℕ) → Option Refusal
lay_questions named n side tape memory =
    ask (nat_le 1 n && nat_le n max_planes) (lay_refusal 1 0)
    (ask (nat_le min_side side && nat_le side max_side) (lay_refusal 2 0)
    (ask (length tape == n) (lay_refusal 3 0)
    (ask (nat_le (size_of n side) memory) (lay_refusal 4 0)
    (ask_each (tape_questions named tape) n))))

-- The cell of the tape's byte i is in all copies and voted copies of plane i, and at i in the line and in the earlier line. All other memory stays.
pub record CellsLaid {C : Type 0} (named : ℕ → Option C) (n side : ℕ) (tape : List ℕ) (before after : List C) : Type 0 where
  pub copies : (i r c : ℕ) (d : C) → i < n → r < side → c < side → Some (slice_index_or after (copy_at side i r c) d) ≡ named (slice_index tape i)
  pub voted : (i r c : ℕ) (d : C) → i < n → r < side → c < side → Some (slice_index_or after (voted_at n side i r c) d) ≡ named (slice_index tape i)
  pub line : (i : ℕ) (d : C) → i < n → Some (slice_index_or after (line_at n side i) d) ≡ named (slice_index tape i)
  pub earlier : (i : ℕ) (d : C) → i < n → Some (slice_index_or after (earlier_at n side i) d) ≡ named (slice_index tape i)
  pub beyond : (k : ℕ) (d : C) → size_of n side ≤ k → slice_index_or after k d ≡ slice_index_or before k d
  pub long : length after ≡ length before

-- Besides, no place is marked, and the age is 0.
pub record Lays {C : Type 0} (named : ℕ → Option C) (n side : ℕ) (tape : List ℕ) (before after : Board C) : Type 0 where
  pub kept : Laid
  pub stands : after.laid ≡ Some kept
  pub planes : kept.planes ≡ n
  pub cells : CellsLaid named n side tape before.cells after.cells
  pub shadow : IsShadow kept.shadow side no_marks
  pub age : kept.age ≡ 0
