-- All the calls made on one plate: its own, runs and reports.
use Rattle.std.specs.Prelude.{◌≡◌, ℕ, Bool, List, [], ◌∷◌, None, Ok, Err, Result}
use Rattle.plate.specs.Board.{Board}
use Rattle.plate.specs.Healing.{Healing}
use Rattle.plate.specs.History.{Call, History, Outcome, Reached}
use Rattle.plate.specs.Leads.{with_calls}
use Rattle.plate.specs.Members.{Members}
use Rattle.runs.specs.declared.fault.RunFault.{RunFault}
use Rattle.runs.specs.RunCall.{calls_of_run}
use Rattle.runs.specs.Runs.{RunAnswers}
use Rattle.reports.specs.declared.fault.ReportFault.{ReportFault}
use Rattle.reports.specs.ReportCall.{ReportAnswers}

-- A call with its arguments and its answer. A run names its host by the host's meaning; a report has its output before and after.
pub data AnyCall (C : Type 0) : Type 0 where
  Own : (call : Call C) (accepted : Bool) → AnyCall C
  Run : (host : C → C → C → C) (script : List ℕ) (beats : ℕ) (answer : Result (Unit {0}) RunFault) → AnyCall C
  Report : (before after : List ℕ) (answer : Result ℕ ReportFault) → AnyCall C

-- What each leaves is what its own contract says.
abbrev pub AnyOutcome : {C : Type 0} → Members C → AnyCall C → (before after : Board C) → Type 0
AnyOutcome k (Own call accepted) b b' = Outcome k call accepted b b'
AnyOutcome k (Run host script beats answer) b b' = RunAnswers k host script beats answer b b'
AnyOutcome k (Report before after answer) b b' = ReportAnswers k answer b before after × (b' ≡ b)

-- A session: the calls made, the newest first.
abbrev pub Session : Type 0 → Type 0
Session C = List (AnyCall C)

-- The plate b is what the session leaves of a new plate.
pub data ComesTo {C : Type 0} (k : Members C) : Session C → Board C → Type 0 where
  new : (cells : List C) → ComesTo k [] record { laid = None; cells = cells }
  more : {s : Session C} {b b' : Board C} (call : AnyCall C) → ComesTo k s b → AnyOutcome k call b b' → ComesTo k (call ∷ s) b'

-- The history of a session: an accepted run stands in it as its strikes and beats. A refused run and a report change nothing.
abbrev pub unrolled : {C : Type 0} → Session C → History C
unrolled [] = []
unrolled (Own call accepted ∷ s) = (call, accepted) ∷ unrolled s
unrolled (Run host script beats (Ok _) ∷ s) = with_calls (calls_of_run host script beats) (unrolled s)
unrolled (Run host script beats (Err _) ∷ s) = unrolled s
unrolled (Report before after answer ∷ s) = unrolled s

-- With a report every session goes on, and the healing laws hold after it.
abbrev pub ReportGoesOn : {C : Type 0} → Members C → Result ℕ ReportFault → Board C → (before after : List ℕ) → Type 0
ReportGoesOn {C} k r b before after =
    (s : Session C) → ComesTo k s b → ComesTo k (Report before after r ∷ s) b × Healing k (unrolled s) b

-- The healing laws hold after every list of calls, runs and reports among them. A triangle may begin to shrink between the strikes and beats of a run.
abbrev pub SessionHeals : {C : Type 0} → Members C → Type 0
SessionHeals {C} k = (s : Session C) (b : Board C) → ComesTo k s b → Reached k (unrolled s) b × Healing k (unrolled s) b
