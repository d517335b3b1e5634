-- Calls that lead, one after another, from one plate to another; and what calls promise that are asked together, before the first of them.
use Rattle.std.specs.Prelude.{◌≡◌, ℕ, zero, suc, true, List, [], ◌∷◌, ◌++◌, Some, None, Option, Result, MatchResult}
use Rattle.hosts.specs.Refusal.{Refusal}
use Rattle.plate.specs.Board.{Board}
use Rattle.plate.specs.Healing.{Healing}
use Rattle.plate.specs.History.{Call, Beat, History, Outcome, Reached}
use Rattle.plate.specs.Members.{Members}

-- The calls, each accepted, lead from one plate to the other.
abbrev pub Leads : {C : Type 0} → Members C → List (Call C) → (before after : Board C) → Type 0
Leads k [] before after = after ≡ before
Leads {C} k (call ∷ calls) before after = (between : Board C) × Outcome k call true before between × Leads k calls between after

-- The history with these calls after it, each accepted.
abbrev pub with_calls : {C : Type 0} → List (Call C) → History C → History C
with_calls [] h = h
with_calls (call ∷ calls) h = with_calls calls ((call, true) ∷ h)

-- m beats of one host.
abbrev pub beats_alone : {C : Type 0} → (host : C → C → C → C) → (m : ℕ) → List (Call C)
beats_alone host zero = []
beats_alone host (suc m) = beats_alone host m ++ (Beat host ∷ [])

-- Of all questions together, `asked` is the first refusal, if any. The answer is Ok exactly when there is none, and an Err is that one. Accepted,
-- the calls lead from the plate before to the plate after; refused, they leave it.
abbrev pub AnswersCalls : {C X E : Type 0} → Members C → (E → Refusal) → (asked : Option Refusal) → List (Call C) → Result X E
    → (before after : Board C) → Type 0
AnswersCalls k refusal asked calls r before after =
    MatchResult r (λ _. (asked ≡ None) × Leads k calls before after)
    (λ e. (asked ≡ Some (refusal e)) × (after ≡ before))

-- Whatever history reached the plate before accepted calls, with them it reaches the plate after, and the healing laws hold there. Refused
-- calls leave history and plate.
abbrev pub GoesOnBy : {C X E : Type 0} → Members C → List (Call C) → Result X E → (before after : Board C) → Type 0
GoesOnBy {C} k calls r before after =
    (h : History C) → Reached k h before
    → MatchResult r (λ _. Reached k (with_calls calls h) after × Healing k (with_calls calls h) after)
    (λ _. Reached k h after × Healing k h after)
