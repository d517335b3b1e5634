-- Refused: its question, and the line that it writes.
use Rattle.std.specs.Prelude.{◌≡◌, ℕ, List, ◌++◌, length, drop, Some, None, codes, decimal, Option, Result, MatchResult, nat_le}
use Rattle.hosts.specs.Refusal.{Refusal, ask}
use Rattle.reports.specs.Text.{line_end}
use Rattle.rounds.specs.declared.fault.RefusedFault.{RefusedFault}
use Rattle.rounds.specs.declared.fault.RefusedFault.TheVariants.{Output}

abbrev pub refused_refusal : Refusal
refused_refusal = record { number = 15; word = codes "refused"; place = 0 }

abbrev pub refused_fault : RefusedFault → Refusal
refused_fault Output = refused_refusal

-- The output must have 64 bytes: no line is longer than 41.
abbrev pub refused_bytes : ℕ
refused_bytes = 64

-- `room` is the length of the output.
abbrev pub refused_questions : (room : ℕ) → Option Refusal
refused_questions room = ask (nat_le refused_bytes room) refused_refusal None

-- `refused`, the number, the word and the place; 0A ends the line.
abbrev pub refused_line : Refusal → List ℕ
refused_line r = codes "refused " ++ (decimal r.number ++ (codes " " ++ (r.word ++ (codes " " ++ (decimal r.place ++ line_end)))))

-- The line at the front of the output, and the rest of it as it was; the answer is the line's length.
abbrev pub RefusedAnswers : Refusal → Result ℕ RefusedFault → (before after : List ℕ) → Type 0
RefusedAnswers refusal r before after =
    MatchResult r
    (λ n. (refused_questions (length before) ≡ None) × (n ≡ length (refused_line refusal)) × (after ≡ refused_line refusal ++ drop n before))
    (λ e. (refused_questions (length before) ≡ Some (refused_fault e)) × (after ≡ before))
