-- A run's outcome pins its end: what it answers and leaves is settled by its arguments and the plate before it.
use Rattle.std.specs.Prelude.{◌≡◌, ℕ, List, Result}
use Rattle.plate.specs.Board.{Board}
use Rattle.plate.specs.Members.{Members}
use Rattle.runs.specs.declared.fault.RunFault.{RunFault}
use Rattle.runs.specs.RunFaults.{run_fault}
use Rattle.runs.specs.Runs.{RunAnswers}

-- Two ends of one run on one plate: the same answer and the same plate.
abbrev pub RunsPin : {C : Type 0} → Members C → Type 0
RunsPin {C} k =
    (host : C → C → C → C) (script : List ℕ) (beats : ℕ) (r r' : Result (Unit {0}) RunFault) (b b₁ b₂ : Board C)
    → RunAnswers k host script beats r b b₁ → RunAnswers k host script beats r' b b₂ → (r ≡ r') × (b₁ ≡ b₂)

-- The refusal tells the fault.
abbrev pub RunFaultsPin : Type 0
RunFaultsPin = (e f : RunFault) → run_fault e ≡ run_fault f → e ≡ f
