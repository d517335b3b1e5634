-- Play: its questions, and what it leaves of memory and output.
use Rattle.std.specs.Prelude.{◌≡◌, ℕ, true, List, [], ◌∷◌, length, Some, None, Option, Result, MatchResult, nat_le}
use Rattle.std.specs.Option.{option_or}
use Rattle.hosts.specs.Refusal.{Refusal, ask}
use Rattle.plate.specs.Board.{Board}
use Rattle.plate.specs.Faults.{lay_fault}
use Rattle.plate.specs.Healing.{Healing}
use Rattle.plate.specs.History.{Lay, History, Outcome, Reached}
use Rattle.plate.specs.LayCall.{lay_questions}
use Rattle.plate.specs.Leads.{Leads, with_calls}
use Rattle.plate.specs.Members.{Members}
use Rattle.runs.specs.RunCall.{calls_of_run, shape_questions}
use Rattle.runs.specs.RunFaults.{run_fault}
use Rattle.reports.specs.ReportCall.{Reports, report_bytes, report_fault, report_refusal}
use Rattle.rounds.specs.declared.fault.PlayFault.{PlayFault}
use Rattle.rounds.specs.declared.fault.PlayFault.TheVariants as faults
use Rattle.rounds.specs.declared.file_kind.FileKind.{FileKind}
use Rattle.rounds.specs.Hosts.{host_fault}
use Rattle.rounds.specs.RoundFile.{beats_in, host_in, planes_in, round_fault, round_questions, script_in, side_in, tape_in}

-- What a kind of round has of its own: the kind that its files say, the questions of a host, that a host is in these bytes, and what it means.
pub record Entrant (C H : Type 0) : Type 1 where
  pub kind : FileKind
  pub questions : List ℕ → Option Refusal
  pub in_bytes : List ℕ → H → Type 0
  pub meaning : H → C → C → C → C

abbrev pub entrant : {C H : Type 0} → FileKind → (List ℕ → Option Refusal) → (List ℕ → H → Type 0) → (H → C → C → C → C) → Entrant C H
entrant kind questions in_bytes meaning = record { kind = kind; questions = questions; in_bytes = in_bytes; meaning = meaning }

-- The file's questions, the report's, the host's, lay's; and run's, of the plate as this lay would leave it. `memory` and `room` are the lengths of
-- memory and output.
abbrev pub play_questions : {C H : Type 0} → Members C → Entrant C H → (file : List ℕ) → (memory room : ℕ) → Option Refusal
play_questions k e file memory room =
    option_or (round_questions e.kind file)
    (ask (nat_le report_bytes room) (report_refusal 15)
    (option_or (e.questions (host_in file))
    (option_or (lay_questions k.named (planes_in file) (side_in file) (tape_in file) memory)
    (shape_questions k.named (planes_in file) (side_in file) 0 (beats_in file) (script_in file)))))

abbrev pub play_fault : PlayFault → Refusal
play_fault (faults.Round fault) = round_fault fault
play_fault (faults.Report fault) = report_fault fault
play_fault (faults.Host fault) = host_fault fault
play_fault (faults.Lay fault) = lay_fault fault
play_fault (faults.Run fault) = run_fault fault

-- A round of this shape, tape, script and number of beats: a new plate over the cells is laid, run and reported. In the end the memory is what the
-- plate's cells are.
pub record Performs {C : Type 0} (k : Members C) (host : C → C → C → C) (n side beats : ℕ) (tape script : List ℕ) (answer : ℕ)
    (cells cells' : List C) (out out' : List ℕ) : Type 0 where
  pub laid : Board C
  pub played : Board C
  pub lays : Outcome k (Lay n side tape) true record { laid = None; cells = cells } laid
  pub runs : Leads k (calls_of_run host script beats) laid played
  pub reports : Reports k played answer out out'
  pub memory : cells' ≡ played.cells

-- An accepted play performs the round of its file, with the host that is entered there.
pub record Plays {C H : Type 0} (k : Members C) (e : Entrant C H) (file : List ℕ) (answer : ℕ) (cells cells' : List C) (out out' : List ℕ)
    : Type 0 where
  pub host : H
  pub enters : e.in_bytes (host_in file) host
  pub performs : Performs k (e.meaning host) (planes_in file) (side_in file) (beats_in file) (tape_in file) (script_in file) answer cells cells' out out'

-- The answer is Ok exactly when no question fails, and an Err is the first that does; then memory and output are as they were.
abbrev pub PlayAnswers : {C H : Type 0} → Members C → Entrant C H → (file : List ℕ) → Result ℕ PlayFault → (cells cells' : List C)
    → (out out' : List ℕ) → Type 0
PlayAnswers k e file r cells cells' out out' =
    MatchResult r (λ n. (play_questions k e file (length cells) (length out) ≡ None) × Plays k e file n cells cells' out out')
    (λ f. (play_questions k e file (length cells) (length out) ≡ Some (play_fault f)) × (cells' ≡ cells) × (out' ≡ out))

-- The history of a round: its lay, and then its strikes and beats.
abbrev pub round_history : {C : Type 0} → (host : C → C → C → C) → (file : List ℕ) → History C
round_history host file =
    with_calls (calls_of_run host (script_in file) (beats_in file)) ((Lay (planes_in file) (side_in file) (tape_in file), true) ∷ [])

-- It reaches the plate that was reported, and the healing laws hold there.
abbrev pub PlayHeals : {C H : Type 0} → Members C → Entrant C H → (file : List ℕ) → Result ℕ PlayFault → (cells cells' : List C)
    → (out out' : List ℕ) → Type 0
PlayHeals k e file r cells cells' out out' =
    MatchResult r
    (λ n. (p : Plays k e file n cells cells' out out')
    → Reached k (round_history (e.meaning p.host) file) p.performs.played
    × Healing k (round_history (e.meaning p.host) file) p.performs.played)
    (λ _. Unit {0})
