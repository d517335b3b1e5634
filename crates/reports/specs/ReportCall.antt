-- Report: its questions, and what it writes.
use Rattle.std.specs.Prelude.{◌≡◌, ℕ, List, ◌++◌, length, drop, Some, None, codes, Option, Result, MatchResult, nat_le}
use Rattle.hosts.specs.Refusal.{Refusal, ask}
use Rattle.plate.specs.declared.laid.Laid.{Laid}
use Rattle.plate.specs.Board.{Board, standing}
use Rattle.plate.specs.Members.{Members}
use Rattle.reports.specs.declared.fault.ReportFault.{ReportFault}
use Rattle.reports.specs.declared.fault.ReportFault.TheVariants.{Bare, Output}
use Rattle.reports.specs.Report.{report_of}

abbrev pub report_refusal : (number : ℕ) → Refusal
report_refusal number = record { number = number; word = codes "report"; place = 0 }

abbrev pub report_fault : ReportFault → Refusal
report_fault Bare = report_refusal 6
report_fault Output = report_refusal 15

-- No report is longer, so this is the room that it asks for.
abbrev pub report_bytes : ℕ
report_bytes = 12396

-- `room` is the length of the output.
abbrev pub report_questions_of : Option Laid → (room : ℕ) → Option Refusal
report_questions_of None room = Some (report_refusal 6)
report_questions_of (Some l) room = ask (nat_le report_bytes room) (report_refusal 15) None

abbrev pub report_questions : {C : Type 0} → Board C → (room : ℕ) → Option Refusal
report_questions b room = report_questions_of (standing b) room

-- The report at the front of the output, and the rest of it as it was; the answer is the report's length.
pub record Reports {C : Type 0} (k : Members C) (b : Board C) (answer : ℕ) (before after : List ℕ) : Type 0 where
  pub stood : Laid
  pub standing_before : standing b ≡ Some stood
  pub answers : (d : C) → answer ≡ length (report_of k stood b.cells d)
  pub out : (d : C) → after ≡ report_of k stood b.cells d ++ drop answer before

-- The answer is Ok exactly when no question fails, and an Err is the first that does; then the output is as it was.
abbrev pub ReportAnswers : {C : Type 0} → Members C → Result ℕ ReportFault → Board C → (before after : List ℕ) → Type 0
ReportAnswers k r b before after =
    MatchResult r (λ n. (report_questions b (length before) ≡ None) × Reports k b n before after)
    (λ e. (report_questions b (length before) ≡ Some (report_fault e)) × (after ≡ before))
