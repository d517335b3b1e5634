-- The healing laws: what the vote and the shadow promise of every plate that calls can reach.
use Rattle.std.specs.Prelude.{◌≡◌, ℕ, ◌+◌, ◌-◌, ◌<◌, ◌≤◌, Bool, true, false, List, [], ◌∷◌, ◌++◌, length, Some, None, Option, ◌≢◌}
use Rattle.toom.specs.Shadow.{marks}
use Rattle.toom.specs.Torus.{SameOnTorus}
use Rattle.toom.specs.Triangle.{InTriangle, LiesInTriangle}
use Rattle.plate.specs.declared.laid.Laid.{Laid}
use Rattle.plate.specs.BeatCall.{copies, line}
use Rattle.plate.specs.Board.{Board, standing, side_of}
use Rattle.plate.specs.History.{Call, Lay, Strike, Beat, Read, Map, Show, History, Outcome, Reached}
use Rattle.plate.specs.Members.{Members}
use Rattle.plate.specs.Plain.{FaultlessTape, FewerThanHalf, Plain, plain}

-- The plate is laid with the plain machine's shape, its shadow is the plain machine's, outside the shadow every copy of plane i is cell i of the
-- faultless run, and the line is the faultless run, so that the map counts exactly the copies that differ from it.
pub record Agrees {C : Type 0} (p : Plain C) (b : Board C) : Type 0 where
  pub kept : Laid
  pub stands : standing b ≡ Some kept
  pub planes : kept.planes ≡ p.n
  pub sides : side_of kept ≡ p.side
  pub shadows : SameOnTorus p.side (marks kept.shadow) p.shadow
  pub copies : (i r c : ℕ) (d : C) → i < p.n → r < p.side → c < p.side → p.shadow r c ≡ false
      → Some (copies b.cells p.side d i r c) ≡ p.run i
  pub lines : (i : ℕ) (d : C) → i < p.n → Some (line b.cells p.n p.side d i) ≡ p.run i

-- The same, or that there is no plain machine and the plate is bare.
abbrev pub Matches : {C : Type 0} → Option (Plain C) → Board C → Type 0
Matches None b = standing b ≡ None
Matches (Some p) b = Agrees p b

-- No lay and no strike was accepted in these calls; and how many beats were.
abbrev pub quiet_call : {C : Type 0} → Call C → Bool
quiet_call (Lay n side tape) = false
quiet_call (Strike plane row column byte) = false
quiet_call (Beat host) = true
quiet_call (Read before after) = true
quiet_call (Map before after) = true
quiet_call (Show before after) = true

abbrev pub Quiet : {C : Type 0} → History C → Type 0
Quiet [] = Unit {0}
Quiet ((call, true) ∷ h) = (quiet_call call ≡ true) × Quiet h
Quiet ((call, false) ∷ h) = Quiet h

abbrev pub beats_of : {C : Type 0} → Call C → ℕ
beats_of (Lay n side tape) = 0
beats_of (Strike plane row column byte) = 0
beats_of (Beat host) = 1
beats_of (Read before after) = 0
beats_of (Map before after) = 0
beats_of (Show before after) = 0

abbrev pub beats_in : {C : Type 0} → History C → ℕ
beats_in [] = 0
beats_in ((call, true) ∷ h) = beats_of call + beats_in h
beats_in ((call, false) ∷ h) = beats_in h

-- The shadow of the plain machine q, and every copy that differs from its faultless run, lie in the triangle of side m at this corner.
pub record WoundsWithin {C : Type 0} (q : Plain C) (b : Board C) (row column m : ℕ) : Type 0 where
  pub shadow : LiesInTriangle q.side q.shadow row column m
  pub copies : (i r c : ℕ) (d : C) → i < q.n → r < q.side → c < q.side
      → (Some (copies b.cells q.side d i r c) ≢ q.run i) → InTriangle q.side row column m r c

-- What holds of a plate b that the history h reached.
pub record Healing {C : Type 0} (k : Members C) (h : History C) (b : Board C) : Type 0 where
  -- The shadow is the plain machine's, and outside it every copy is the faultless run's.
  pub outside : Matches (plain k h) b
  -- Wherever the history is cut: if the shadow then lay in a right triangle of side m, m below the side of the torus, and since then no lay or strike but
  -- at most m beats were accepted, it has shrunk by one for each of them, and all wounds with it.
  pub shrinks : (later earlier : History C) → h ≡ later ++ earlier → Quiet later → (p q : Plain C) → plain k earlier ≡ Some p → plain k h ≡ Some q
      → (row column m : ℕ) → m < p.side → beats_in later ≤ m → LiesInTriangle p.side p.shadow row column m
      → WoundsWithin q b row column (m - beats_in later)
  -- While the shadow covers fewer than half of the places, a read with enough output is accepted and gives the whole faultless tape.
  pub reads : (p : Plain C) → plain k h ≡ Some p → FewerThanHalf p
      → (before after : List ℕ) (accepted : Bool) (b' : Board C) → Outcome k (Read before after) accepted b b' → p.n ≤ length before
      → (accepted ≡ true) × FaultlessTape k p after

-- Whatever calls were made since the plate was new, in any order and number, accepted or refused.
abbrev pub AlwaysHeals : {C : Type 0} → Members C → Type 0
AlwaysHeals {C} k = (h : History C) (b : Board C) → Reached k h b → Healing k h b
