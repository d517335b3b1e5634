-- Shadow: its questions, and what it writes.
use Rattle.std.specs.Prelude.{◌≡◌, ℕ, List, ◌++◌, drop, Some, None, codes, Option, nat_le}
use Rattle.toom.specs.Shadow.{words_of}
use Rattle.hosts.specs.Refusal.{Refusal, ask}
use Rattle.plate.specs.declared.laid.Laid.{Laid}
use Rattle.plate.specs.Board.{Board, standing, side_of}

abbrev pub shadow_refusal : (number : ℕ) → Refusal
shadow_refusal number = record { number = number; word = codes "shadow"; place = 0 }

abbrev pub shadow_questions_of : Option Laid → (room : ℕ) → Option Refusal
shadow_questions_of None room = Some (shadow_refusal 6)
shadow_questions_of (Some l) room = ask (nat_le (side_of l) room) (shadow_refusal 15) None

abbrev pub shadow_questions : {C : Type 0} → Board C → (room : ℕ) → Option Refusal
shadow_questions b room = shadow_questions_of (standing b) room

-- The shadow's row words at the front of the output, the rest of it as it was.
pub record Shows {C : Type 0} (b : Board C) (before after : List ℕ) : Type 0 where
  pub stood : Laid
  pub standing_before : standing b ≡ Some stood
  pub out : after ≡ words_of stood.shadow ++ drop (side_of stood) before
