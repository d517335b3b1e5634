-- The outcomes of play, refused and reply pin their ends: what they answer and leave is settled by their arguments, the memory and the output before.
use Rattle.std.specs.Prelude.{◌≡◌, ℕ, List, Result}
use Rattle.hosts.specs.Refusal.{Refusal}
use Rattle.plate.specs.Members.{Members}
use Rattle.rounds.specs.declared.fault.PlayFault.{PlayFault}
use Rattle.rounds.specs.declared.fault.RefusedFault.{RefusedFault}
use Rattle.rounds.specs.declared.refusal.Refusal as code
use Rattle.rounds.specs.PlayCall.{Entrant, PlayAnswers, play_fault}
use Rattle.rounds.specs.RefusedCall.{RefusedAnswers}
use Rattle.rounds.specs.ReplyCall.{Replies}
use Rattle.rounds.specs.Told.{told}

-- Two ends of one play: the same answer, the same memory and the same output.
abbrev pub PlayPins : {C H : Type 0} → Members C → Entrant C H → Type 0
PlayPins {C} k e =
    (file : List ℕ) (cells cells₁ cells₂ : List C) (out out₁ out₂ : List ℕ) (r r' : Result ℕ PlayFault)
    → PlayAnswers k e file r cells cells₁ out out₁ → PlayAnswers k e file r' cells cells₂ out out₂
    → (r ≡ r') × (cells₁ ≡ cells₂) × (out₁ ≡ out₂)

-- Two ends of one reply: the same.
abbrev pub ReplyPins : {C H : Type 0} → Members C → Entrant C H → Type 0
ReplyPins {C} k e =
    (file : List ℕ) (cells cells₁ cells₂ : List C) (out out₁ out₂ : List ℕ) (r r' : Result ℕ RefusedFault)
    → Replies k e file r cells cells₁ out out₁ → Replies k e file r' cells cells₂ out out₂ → (r ≡ r') × (cells₁ ≡ cells₂) × (out₁ ≡ out₂)

-- The refusal tells the fault.
abbrev pub PlayFaultsPin : Type 0
PlayFaultsPin = (f g : PlayFault) → play_fault f ≡ play_fault g → f ≡ g

-- Two ends of one call of refused: the same answer and the same output.
abbrev pub RefusedPins : Type 0
RefusedPins =
    (refusal : Refusal) (out out₁ out₂ : List ℕ) (r r' : Result ℕ RefusedFault) → RefusedAnswers refusal r out out₁
    → RefusedAnswers refusal r' out out₂ → (r ≡ r') × (out₁ ≡ out₂)

-- Refusals of the code that are told alike are the same.
abbrev pub WordsPin : Type 0
WordsPin = (r s : code.Refusal) → told r ≡ told s → r ≡ s
