-- A plate's board, and what a call promises: its answer, the plate after, and that the history goes on.
use Rattle.std.specs.Prelude.{◌≡◌, ℕ, Bool, true, false, ◌∷◌, Some, Option, Result, MatchResult}
use Rattle.hosts.specs.Refusal.{Refusal}
use Rattle.plate.specs.declared.plate.Plate.{Plate}
use Rattle.plate.specs.Board.{Board}
use Rattle.plate.specs.Healing.{Healing}
use Rattle.plate.specs.History.{Call, History, Outcome, Reached, refusal_on}
use Rattle.plate.specs.Members.{Members}

-- The members of a kind.
abbrev pub members : {C : Type 0} → (C → C → Bool) → (C → ℕ) → (ℕ → Option C) → Members C
members equal byte named = record { equal = equal; byte = byte; named = named }

abbrev pub board : {C : Type 0} → Plate C → Board C
board p = record { laid = p.laid; cells = p.cells.now }

-- The answer is Ok exactly when no question of the call fails, and an Err is the first that does. The plate after is that of the call's outcome.
abbrev pub Answers : {C X E : Type 0} → Members C → (E → Refusal) → Call C → Result X E → (before after : Board C) → Type 0
Answers k refusal call r before after =
    MatchResult r (λ _. Outcome k call true before after) (λ e. (refusal_on k before call ≡ Some (refusal e)) × Outcome k call false before after)

-- Whatever history reached the plate before the call, with the call it reaches the plate after it, and the healing laws hold there.
abbrev pub GoesOn : {C X E : Type 0} → Members C → Call C → Result X E → (before after : Board C) → Type 0
GoesOn {C} k call r before after =
    (h : History C) → Reached k h before
    → MatchResult r (λ _. Reached k ((call, true) ∷ h) after × Healing k ((call, true) ∷ h) after)
    (λ _. Reached k ((call, false) ∷ h) after × Healing k ((call, false) ∷ h) after)
