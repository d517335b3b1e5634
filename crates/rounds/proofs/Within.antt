-- What a reply writes lies within the output.
use Rattle.std.proofs.Common.{◌≡◌, ℕ, ◌≤◌, List, ◌++◌, length, drop, IfOk, Ok, Err, Result, sym, ap, ◌∙◌, subst, arith}
use Rattle.std.proofs.lemmas.List.{length-append}
use Rattle.plate.specs.Members.{Members}
use Rattle.reports.specs.Report.{report_of}
use Rattle.plate.proofs.PinnedEffects.{some_cell}
use Rattle.rounds.specs.declared.fault.PlayFault.{PlayFault}
use Rattle.rounds.specs.declared.fault.RefusedFault.{RefusedFault}
use Rattle.rounds.specs.PlayCall.{Entrant, PlayAnswers, play_fault}
use Rattle.rounds.specs.RefusedCall.{refused_line}
use Rattle.rounds.specs.ReplyCall.{Replies, Tells}

front : (n : ℕ) (text rest after : List ℕ) → n ≡ length text → after ≡ text ++ rest → n ≤ length after
front n text rest after long is = omega (arith, long, ap length is, length-append text rest)

module _ {C H : Type 0} (k : Members C) (e : Entrant C H) (file : List ℕ) (cells cells' : List C) (out written : List ℕ) where
  told_within : (answer : Result ℕ PlayFault) (r : Result ℕ RefusedFault) (out' : List ℕ) → PlayAnswers k e file answer cells cells' out written
      → Tells answer written r out' → IfOk r (λ n. n ≤ length out')
  told_within (Ok n) r out' plays tells =
      let reports = plays.1.performs.reports in
      let b = plays.1.performs.played in
      let d = some_cell b reports.stood reports.standing_before in
      let report = report_of k reports.stood b.cells d in
      subst (λ r. IfOk r (λ n. n ≤ length out')) (sym tells.0) (front n report (drop n out) out' (reports.answers d) (tells.1 ∙ reports.out d))
  told_within (Err f) (Ok n) out' plays tells = front n (refused_line (play_fault f)) (drop n written) out' tells.1 tells.2
  told_within (Err f) (Err g) out' plays tells = tt

pub replied_within : {C H : Type 0} {k : Members C} {e : Entrant C H} {file : List ℕ} {r : Result ℕ RefusedFault} {cells cells' : List C}
    {out out' : List ℕ} → Replies k e file r cells cells' out out' → IfOk r (λ n. n ≤ length out')
replied_within {k = k} {e = e} {file = file} {r = r} {cells = cells} {cells' = cells'} {out = out} {out' = out'} x =
    told_within k e file cells cells' out x.written x.answer r out' x.plays x.tells
