-- The reading as a report takes it: a plane that has no majority is no fault of the report, but what it tells.
use Rattle.std.specs.Prelude.{◌≡◌, ℕ, List, length, Some, None, Ok, Err, Result, MatchResult}
use Rattle.std.specs.Borrow.{Bor}
use Rattle.hosts.specs.Refusal.{Refusal}
use Rattle.plate.specs.Board.{Board}
use Rattle.plate.specs.Members.{Members}
use Rattle.plate.specs.ReadCall.{Reads, read_questions, read_refusal}
use Rattle.reports.specs.declared.fault.ReportFault.{ReportFault}
use Rattle.reports.specs.declared.fault.ReportFault.TheVariants.{Bare, Output}

-- The refusal of the read that the fault comes from.
abbrev pub tape_fault : ReportFault → Refusal
tape_fault Bare = read_refusal 6 0
tape_fault Output = read_refusal 15 0

-- The reading in the tape, which was `before`, or else the first plane that has no majority.
abbrev pub TapeRead : {C : Type 0} → Members C → Board C → (before : List ℕ) → Result (Bor (List ℕ)) ℕ → Type 0
TapeRead k b before (Ok tape) = (read_questions k.equal b (length before) ≡ None) × Reads k.equal k.byte b before tape.now
TapeRead k b before (Err plane) = read_questions k.equal b (length before) ≡ Some (read_refusal 16 plane)

abbrev pub TapeAnswers : {C : Type 0} → Members C → Result (Result (Bor (List ℕ)) ℕ) ReportFault → Board C → (before : List ℕ) → Type 0
TapeAnswers k r b before =
    MatchResult r (TapeRead k b before) (λ e. read_questions k.equal b (length before) ≡ Some (tape_fault e))
