-- Reply: the report of a round, or the line of its refusal.
use Rattle.std.specs.Prelude.{◌≡◌, ℕ, List, Ok, Result, MatchResult}
use Rattle.plate.specs.Members.{Members}
use Rattle.rounds.specs.declared.fault.PlayFault.{PlayFault}
use Rattle.rounds.specs.declared.fault.RefusedFault.{RefusedFault}
use Rattle.rounds.specs.PlayCall.{Entrant, PlayAnswers, play_fault}
use Rattle.rounds.specs.RefusedCall.{RefusedAnswers}

-- What is answered and left in the output once play has answered and left `written` there: that, or the line of its refusal.
abbrev pub Tells : Result ℕ PlayFault → (written : List ℕ) → Result ℕ RefusedFault → (out' : List ℕ) → Type 0
Tells answer written r out' = MatchResult answer (λ n. (r ≡ Ok n) × (out' ≡ written)) (λ f. RefusedAnswers (play_fault f) r written out')

-- The round is played. If it is accepted, its report stands in the output; if not, the line of its refusal. The answer is the length written.
pub record Replies {C H : Type 0} (k : Members C) (e : Entrant C H) (file : List ℕ) (r : Result ℕ RefusedFault) (cells cells' : List C)
    (out out' : List ℕ) : Type 0 where
  pub answer : Result ℕ PlayFault
  pub written : List ℕ
  pub plays : PlayAnswers k e file answer cells cells' out written
  pub tells : Tells answer written r out'
