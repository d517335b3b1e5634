-- Beat: its questions, and what it leaves.
use Rattle.std.specs.Prelude.{◌≡◌, ℕ, ◌+◌, ◌<◌, ◌≤◌, Bool, List, length, Some, None, codes, Option, nat_lt, slice_index_or}
use Rattle.toom.specs.ShadowCalls.{Voted}
use Rattle.toom.specs.Torus.{Plane}
use Rattle.toom.specs.Vote.{voted}
use Rattle.hosts.specs.Refusal.{Refusal, ask}
use Rattle.hosts.specs.Ring.{stepped}
use Rattle.plate.specs.declared.laid.Laid.{Laid}
use Rattle.plate.specs.Board.{Board, standing, side_of}
use Rattle.plate.specs.Layout.{copy_at, voted_at, line_at, earlier_at, size_of}

abbrev pub beat_refusal : (number : ℕ) → Refusal
beat_refusal number = record { number = number; word = codes "beat"; place = 0 }

-- The age of a plate is at most 1,048,575: it has 20 bits, as the beats of a round file do.
abbrev pub max_age : ℕ
max_age = 1048575

abbrev pub beat_questions_of : Option Laid → Option Refusal
beat_questions_of None = Some (beat_refusal 6)
beat_questions_of (Some l) = ask (nat_lt l.age max_age) (beat_refusal 10) None

abbrev pub beat_questions : {C : Type 0} → Board C → Option Refusal
beat_questions b = beat_questions_of (standing b)

-- The copies of plane i, and the voted copies, as planes; the line. d stands for what lies past the memory.
abbrev pub copies : {C : Type 0} → List C → (side : ℕ) → C → ℕ → Plane C
copies cells side d i r c = slice_index_or cells (copy_at side i r c) d

abbrev pub voted_copies : {C : Type 0} → List C → (n side : ℕ) → C → ℕ → Plane C
voted_copies cells n side d i r c = slice_index_or cells (voted_at n side i r c) d

abbrev pub line : {C : Type 0} → List C → (n side : ℕ) → C → ℕ → C
line cells n side d i = slice_index_or cells (line_at n side i) d

-- The voted copies are the votes of the old copies. The copies are what the host answers at each place to the voted copies of a plane and of the two
-- planes beside it. The earlier line is the old line, and the line what the host answers along it.
pub record CellsBeaten {C : Type 0} (equal : C → C → Bool) (host : C → C → C → C) (n side : ℕ) (before after : List C) : Type 0 where
  pub votes : (i r c : ℕ) (d : C) → i < n → r < side → c < side
      → voted_copies after n side d i r c ≡ voted equal side (copies before side d i) r c
  pub steps : (i r c : ℕ) (d : C) → i < n → r < side → c < side
      → copies after side d i r c ≡ stepped host n (λ k. voted_copies after n side d k r c) i
  pub earlier : (i : ℕ) (d : C) → i < n → slice_index_or after (earlier_at n side i) d ≡ line before n side d i
  pub lines : (i : ℕ) (d : C) → i < n → line after n side d i ≡ stepped host n (line before n side d) i
  pub beyond : (k : ℕ) (d : C) → size_of n side ≤ k → slice_index_or after k d ≡ slice_index_or before k d
  pub long : length after ≡ length before

-- Besides, the shadow is voted, and the age is one more.
pub record Beats {C : Type 0} (equal : C → C → Bool) (host : C → C → C → C) (before after : Board C) : Type 0 where
  pub stood : Laid
  pub kept : Laid
  pub standing_before : standing before ≡ Some stood
  pub stands : after.laid ≡ Some kept
  pub cells : CellsBeaten equal host stood.planes (side_of stood) before.cells after.cells
  pub shadow : Voted stood.shadow kept.shadow
  pub planes : kept.planes ≡ stood.planes
  pub age : kept.age ≡ stood.age + 1
