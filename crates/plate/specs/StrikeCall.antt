-- Strike: its questions, and what it leaves.
use Rattle.std.specs.Prelude.{◌≡◌, ℕ, ◌&&◌, is_some, Some, None, codes, Option, nat_lt, slice_set}
use Rattle.toom.specs.Shadow.{IsShadow, marks, with_mark}
use Rattle.hosts.specs.Refusal.{Refusal, ask}
use Rattle.plate.specs.declared.laid.Laid.{Laid}
use Rattle.plate.specs.Board.{Board, standing, side_of}
use Rattle.plate.specs.Layout.{copy_at}

abbrev pub strike_refusal : (number : ℕ) → Refusal
strike_refusal number = record { number = number; word = codes "strike"; place = 0 }

-- The questions about the strike itself, its place and its byte, for a plate of n planes of this side.
abbrev pub place_questions : {C : Type 0} → (named : ℕ → Option C) → (n side plane row column byte : ℕ) → Option Refusal
place_questions named n side plane row column byte =
    ask (nat_lt plane n) (strike_refusal 7)
    (ask (nat_lt row side && nat_lt column side) (strike_refusal 8)
    (ask (is_some (named byte)) (strike_refusal 9) None))

abbrev pub strike_questions_of : {C : Type 0} → (named : ℕ → Option C) → Option Laid → (plane row column byte : ℕ) → Option Refusal
strike_questions_of named None plane row column byte = Some (strike_refusal 6)
strike_questions_of named (Some l) plane row column byte = place_questions named l.planes (side_of l) plane row column byte

abbrev pub strike_questions : {C : Type 0} → (named : ℕ → Option C) → Board C → (plane row column byte : ℕ) → Option Refusal
strike_questions named b = strike_questions_of named (standing b)

-- That copy is now the cell of the byte, and its place is marked in the shadow. All else stays.
pub record Strikes {C : Type 0} (named : ℕ → Option C) (plane row column byte : ℕ) (before after : Board C) : Type 0 where
  pub stood : Laid
  pub kept : Laid
  pub cell : C
  pub standing_before : standing before ≡ Some stood
  pub stands : after.laid ≡ Some kept
  pub names : named byte ≡ Some cell
  pub cells : after.cells ≡ slice_set before.cells (copy_at (side_of stood) plane row column) cell
  pub shadow : IsShadow kept.shadow (side_of stood) (with_mark (marks stood.shadow) row column)
  pub planes : kept.planes ≡ stood.planes
  pub age : kept.age ≡ stood.age
