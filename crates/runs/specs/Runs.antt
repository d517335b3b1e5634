-- What a run promises: its answer, the plate after, and that the history goes on by its strikes and beats.
use Rattle.std.specs.Prelude.{ℕ, List, Result}
use Rattle.plate.specs.Board.{Board}
use Rattle.plate.specs.Leads.{AnswersCalls, GoesOnBy}
use Rattle.plate.specs.Members.{Members}
use Rattle.runs.specs.declared.fault.RunFault.{RunFault}
use Rattle.runs.specs.RunCall.{run_questions, calls_of_run}
use Rattle.runs.specs.RunFaults.{run_fault}

-- The answer is Ok exactly when no question fails, and an Err is the first that does. An accepted run leaves what its strikes and beats leave, a
-- refused one everything.
abbrev pub RunAnswers : {C X : Type 0} → Members C → (host : C → C → C → C) → (script : List ℕ) → (beats : ℕ) → Result X RunFault
    → (before after : Board C) → Type 0
RunAnswers k host script beats r before after =
    AnswersCalls k run_fault (run_questions k.named before beats script) (calls_of_run host script beats) r before after

-- Whatever history reached the plate before an accepted run, with the run's strikes and beats it reaches the plate after it, and the healing laws hold
-- there. A refused run leaves history and plate.
abbrev pub RunGoesOn : {C X : Type 0} → Members C → (host : C → C → C → C) → (script : List ℕ) → (beats : ℕ) → Result X RunFault
    → (before after : Board C) → Type 0
RunGoesOn k host script beats r before after = GoesOnBy k (calls_of_run host script beats) r before after
