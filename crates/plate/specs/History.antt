-- The calls made on one plate, and what each leaves of it.
use Rattle.std.specs.Prelude.{◌≡◌, ℕ, Bool, true, false, List, [], ◌∷◌, length, is_some, None, Option}
use Rattle.hosts.specs.Refusal.{Refusal}
use Rattle.plate.specs.BeatCall.{beat_questions, Beats}
use Rattle.plate.specs.Board.{Board}
use Rattle.plate.specs.LayCall.{lay_questions, Lays}
use Rattle.plate.specs.MapCall.{map_questions, Maps}
use Rattle.plate.specs.Members.{Members}
use Rattle.plate.specs.ReadCall.{read_questions, Reads}
use Rattle.plate.specs.ShadowCall.{shadow_questions, Shows}
use Rattle.plate.specs.StrikeCall.{strike_questions, Strikes}

-- A call with its arguments. A beat names its host by the host's meaning; a call that writes has its output before and after. `Show` is the call
-- that writes the shadow.
pub data Call (C : Type 0) : Type 0 where
  Lay : (n side : ℕ) (tape : List ℕ) → Call C
  Strike : (plane row column byte : ℕ) → Call C
  Beat : (host : C → C → C → C) → Call C
  Read : (before after : List ℕ) → Call C
  Map : (before after : List ℕ) → Call C
  Show : (before after : List ℕ) → Call C

-- The first refusal that the call's questions give on this plate, if any.
abbrev pub refusal_on : {C : Type 0} → Members C → Board C → Call C → Option Refusal
refusal_on k b (Lay n side tape) = lay_questions k.named n side tape (length b.cells)
refusal_on k b (Strike plane row column byte) = strike_questions k.named b plane row column byte
refusal_on k b (Beat host) = beat_questions b
refusal_on k b (Read before after) = read_questions k.equal b (length before)
refusal_on k b (Map before after) = map_questions b (length before)
refusal_on k b (Show before after) = shadow_questions b (length before)

-- What an accepted call leaves: of the plate, and of its output.
abbrev pub Effect : {C : Type 0} → Members C → Call C → (before after : Board C) → Type 0
Effect k (Lay n side tape) b b' = Lays k.named n side tape b b'
Effect k (Strike plane row column byte) b b' = Strikes k.named plane row column byte b b'
Effect k (Beat host) b b' = Beats k.equal host b b'
Effect k (Read before after) b b' = Reads k.equal k.byte b before after × (b' ≡ b)
Effect k (Map before after) b b' = Maps k.equal b before after × (b' ≡ b)
Effect k (Show before after) b b' = Shows b before after × (b' ≡ b)

-- A refused call leaves its output as it was.
abbrev pub Untouched : {C : Type 0} → Call C → Type 0
Untouched (Lay n side tape) = Unit {0}
Untouched (Strike plane row column byte) = Unit {0}
Untouched (Beat host) = Unit {0}
Untouched (Read before after) = after ≡ before
Untouched (Map before after) = after ≡ before
Untouched (Show before after) = after ≡ before

-- A call is accepted exactly when none of its questions fails.
abbrev pub Outcome : {C : Type 0} → Members C → Call C → (accepted : Bool) → (before after : Board C) → Type 0
Outcome k call true b b' = (refusal_on k b call ≡ None) × Effect k call b b'
Outcome k call false b b' = (is_some (refusal_on k b call) ≡ true) × Untouched call × (b' ≡ b)

-- A history: the calls made, each with whether it was accepted, the newest first.
abbrev pub History : Type 0 → Type 0
History C = List (Call C × Bool)

-- The plate b is what the history leaves of a new plate.
pub data Reached {C : Type 0} (k : Members C) : History C → Board C → Type 0 where
  new : (cells : List C) → Reached k [] record { laid = None; cells = cells }
  more : {h : History C} {b b' : Board C} (call : Call C) (accepted : Bool) → Reached k h b → Outcome k call accepted b b'
      → Reached k ((call, accepted) ∷ h) b'
