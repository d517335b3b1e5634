-- A session leaves what its history leaves, so the healing laws hold after it; with a report it goes on.
use Rattle.std.proofs.Common.{ℕ, List, Ok, Err, Result, sym, refl, subst}
use Rattle.plate.specs.Board.{Board}
use Rattle.plate.specs.Healing.{AlwaysHeals}
use Rattle.plate.specs.History as history
use Rattle.plate.specs.History.{Reached}
use Rattle.plate.specs.Members.{Members}
use Rattle.plate.proofs.Leading.{reached_with}
use Rattle.runs.specs.RunCall.{calls_of_run}
use Rattle.reports.specs.declared.fault.ReportFault.{ReportFault}
use Rattle.reports.specs.ReportCall.{ReportAnswers}
use Rattle.reports.specs.Session.{ComesTo, Own, Report, ReportGoesOn, Run, Session, SessionHeals, more, new, unrolled}

module _ {C : Type 0} (k : Members C) where
  history_reached : {s : Session C} {b : Board C} → ComesTo k s b → Reached k (unrolled s) b
  history_reached (new cells) = history.new cells
  history_reached (more (Own call accepted) came outcome) = history.more call accepted (history_reached came) outcome
  history_reached (more {s} {b} {b'} (Run host script beats (Ok _)) came outcome) =
      reached_with k (calls_of_run host script beats) (unrolled s) b b' (history_reached came) outcome.1
  history_reached (more {s} (Run host script beats (Err _)) came outcome) =
      subst (Reached k (unrolled s)) (sym outcome.1) (history_reached came)
  history_reached (more {s} (Report before after answer) came outcome) =
      subst (Reached k (unrolled s)) (sym outcome.1) (history_reached came)

  pub session_heals : AlwaysHeals k → SessionHeals k
  session_heals heals s b came = let reached = history_reached came in (reached, heals (unrolled s) b reached)

  pub report_goes_on : AlwaysHeals k → (b : Board C) (before after : List ℕ) (r : Result ℕ ReportFault) → ReportAnswers k r b before after → ReportGoesOn k r b before after
  report_goes_on heals b before after r outcome s came =
      (more (Report before after r) came (outcome, refl), (session_heals heals s b came).1)
