-- A report's outcome pins its end: the answer and every byte of the output are settled by the plate and the output before it.
use Rattle.std.specs.Prelude.{◌≡◌, ℕ, List, Result}
use Rattle.plate.specs.Board.{Board}
use Rattle.plate.specs.Members.{Members}
use Rattle.reports.specs.declared.fault.ReportFault.{ReportFault}
use Rattle.reports.specs.ReportCall.{ReportAnswers, report_fault}

abbrev pub ReportPins : {C : Type 0} → Members C → Type 0
ReportPins {C} k =
    (b : Board C) (before after after' : List ℕ) (r r' : Result ℕ ReportFault) → ReportAnswers k r b before after
    → ReportAnswers k r' b before after' → (r ≡ r') × (after ≡ after')

-- A refusal tells the fault.
abbrev pub ReportFaultsPin : Type 0
ReportFaultsPin = (e f : ReportFault) → report_fault e ≡ report_fault f → e ≡ f
