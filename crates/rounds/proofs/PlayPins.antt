-- A play's outcome pins its end: the file has one host, each call of the round pins its end, and a refusal leaves everything.
use Rattle.std.proofs.Common.{◌≡◌, ℕ, true, cond, eqb, ltb, List, ◌++◌, length, get_or, drop, None, Ok, Err, Result, sym, refl, ap, ◌∙◌, subst, arith}
use Rattle.hosts.specs.declared.machine.fault.MachineFault.TheVariants as machines
use Rattle.hosts.specs.Refusal.{Refusal}
use Rattle.plate.specs.declared.fault.LayFault.TheVariants as lays
use Rattle.plate.specs.declared.fault.StrikeFault.TheVariants as strikes
use Rattle.plate.specs.History as calls
use Rattle.plate.specs.Leads.{Leads}
use Rattle.plate.specs.Members.{Members}
use Rattle.plate.specs.Pins.{OutcomesPin}
use Rattle.plate.proofs.PinnedCalls.{leads_pin}
use Rattle.plate.proofs.PinnedFaults.{undone}
use Rattle.plate.proofs.Standing.{not_both, some_same}
use Rattle.runs.specs.declared.fault.RunFault.TheVariants as runs
use Rattle.runs.specs.RunCall.{calls_of_run}
use Rattle.reports.specs.declared.fault.ReportFault.TheVariants as reports
use Rattle.reports.specs.ReportCall.{Reports}
use Rattle.reports.proofs.Pins.{reports_pin}
use Rattle.rounds.specs.declared.fault.HostFault.TheVariants as hosts
use Rattle.rounds.specs.declared.fault.PlayFault.{PlayFault}
use Rattle.rounds.specs.declared.fault.PlayFault.TheVariants.{Round, Report, Host, Lay, Run}
use Rattle.rounds.specs.declared.fault.RefusedFault.{RefusedFault}
use Rattle.rounds.specs.declared.fault.RefusedFault.TheVariants.{Output}
use Rattle.rounds.specs.declared.fault.RoundFault.TheVariants as rounds
use Rattle.rounds.specs.PlayCall.{Entrant, Performs, Plays, play_fault, play_questions}
use Rattle.rounds.specs.PlayPins.{PlayFaultsPin, PlayPins, RefusedPins, ReplyPins}
use Rattle.rounds.specs.RefusedCall.{refused_line, refused_questions, refused_refusal}
use Rattle.rounds.specs.ReplyCall.{Tells}
use Rattle.rounds.specs.RoundFile.{beats_in, host_in, planes_in, script_in, side_in, tape_in}

module _ {C : Type 0} (k : Members C) (ends_pin : OutcomesPin k) (host : C → C → C → C) (n side beats : ℕ) (tape script : List ℕ) (cells cells₁ cells₂ : List C)
    (out out₁ out₂ : List ℕ) (a a' : ℕ) where
  performs_pin : Performs k host n side beats tape script a cells cells₁ out out₁ → Performs k host n side beats tape script a' cells cells₂ out out₂
      → (a ≡ a') × (cells₁ ≡ cells₂) × (out₁ ≡ out₂)
  performs_pin x y =
      let laid : x.laid ≡ y.laid = (ends_pin (calls.Lay n side tape) (calls.Lay n side tape) refl true true record { laid = None; cells = cells } x.laid y.laid x.lays y.lays).1 in
      let played : x.played ≡ y.played =
      leads_pin k ends_pin (calls_of_run host script beats) y.laid x.played y.played
      (subst (λ b. Leads k (calls_of_run host script beats) b x.played) laid x.runs) y.runs in
      let told = reports_pin k y.played out out₁ out₂ a a' (subst (λ b. Reports k b a out out₁) played x.reports) y.reports in
      (told.0, x.memory ∙ ap (λ b. b.cells) played ∙ sym y.memory, told.1)

-- The number tells the fault; three faults have number 6, and the second letter of their words tells these.
play_back : Refusal → PlayFault
play_back r =
    let at = r.place in
    let n = r.number in
    let e = eqb (get_or r.word 1 0) in
    cond (ltb n 6)
    (Lay (cond (eqb n 1) lays.Planes (cond (eqb n 2) lays.Side (cond (eqb n 3) lays.Tape (cond (eqb n 4) lays.Memory (lays.Byte at))))))
    (cond (eqb n 6) (cond (e 101) (Report reports.Bare) (cond (e 117) (Run runs.Bare) (Run (runs.Strike at strikes.Bare))))
    (cond (ltb n 10) (Run (runs.Strike at (cond (eqb n 7) strikes.Plane (cond (eqb n 8) strikes.Place strikes.Byte))))
    (cond (ltb n 15)
    (Run
    (cond (eqb n 10) runs.Age
    (cond (eqb n 11) runs.Script (cond (eqb n 12) (runs.Padding at) (cond (eqb n 13) (runs.Number at) (runs.Order at))))))
    (cond (eqb n 15) (Report reports.Output)
    (cond (ltb n 23)
    (Host
    (hosts.Machine
    (cond (eqb n 17) machines.Header
    (cond (eqb n 18) machines.Length
    (cond (eqb n 19) (machines.Next at) (cond (eqb n 20) (machines.Symbol at) (cond (eqb n 21) (machines.Move at) (machines.Padding at))))))))
    (cond (eqb n 27) (Host hosts.Rule)
    (Round (cond (eqb n 23) rounds.Header (cond (eqb n 24) rounds.Kind (cond (eqb n 25) rounds.Length rounds.Copies))))))))))

play_undone : (f : PlayFault) → play_back (play_fault f) ≡ f
unfolding play_back
play_undone (Round fault) = grind arith
play_undone (Report fault) = grind arith
play_undone (Host hosts.Rule) = refl
play_undone (Host (hosts.Machine fault)) = grind arith
play_undone (Lay fault) = grind arith
play_undone (Run (runs.Strike at fault)) = grind arith
play_undone (Run fault) = grind arith

pub play_faults_pin : PlayFaultsPin
play_faults_pin = undone play_fault play_back play_undone

module _ {C H : Type 0} (k : Members C) (ends_pin : OutcomesPin k) (e : Entrant C H) (once : (bytes : List ℕ) (x y : H) → e.in_bytes bytes x → e.in_bytes bytes y → x ≡ y) where
  plays_pin : (file : List ℕ) (cells cells₁ cells₂ : List C) (out out₁ out₂ : List ℕ) (a a' : ℕ) → Plays k e file a cells cells₁ out out₁
      → Plays k e file a' cells cells₂ out out₂ → (a ≡ a') × (cells₁ ≡ cells₂) × (out₁ ≡ out₂)
  plays_pin file cells cells₁ cells₂ out out₁ out₂ a a' x y =
      let same : x.host ≡ y.host = once (host_in file) x.host y.host x.enters y.enters in
      performs_pin k ends_pin (e.meaning y.host) (planes_in file) (side_in file) (beats_in file) (tape_in file) (script_in file) cells cells₁ cells₂ out out₁ out₂ a a'
      (subst
      (λ h. Performs k (e.meaning h) (planes_in file) (side_in file) (beats_in file) (tape_in file) (script_in file) a cells cells₁ out out₁)
      same x.performs) y.performs

  pub play_pins : PlayPins k e
  play_pins file cells cells₁ cells₂ out out₁ out₂ (Ok a) (Ok a') x y =
      let both = plays_pin file cells cells₁ cells₂ out out₁ out₂ a a' x.1 y.1 in (ap Ok both.0, both.1, both.2)
  play_pins file cells cells₁ cells₂ out out₁ out₂ (Ok a) (Err f) x y =
      absurd (not_both (play_questions k e file (length cells) (length out)) (play_fault f) x.0 y.0)
  play_pins file cells cells₁ cells₂ out out₁ out₂ (Err f) (Ok a) x y =
      absurd (not_both (play_questions k e file (length cells) (length out)) (play_fault f) y.0 x.0)
  play_pins file cells cells₁ cells₂ out out₁ out₂ (Err f) (Err g) x y =
      (ap Err (play_faults_pin f g (some_same (play_fault f) (play_fault g) (sym x.0 ∙ y.0))), x.1 ∙ sym y.1, x.2 ∙ sym y.2)

pub refused_pins : RefusedPins
refused_pins refusal out out₁ out₂ (Ok n) (Ok n') x y =
    let same = x.1 ∙ sym y.1 in (ap Ok same, x.2 ∙ ap (λ m. refused_line refusal ++ drop m out) same ∙ sym y.2)
refused_pins refusal out out₁ out₂ (Ok n) (Err Output) x y = absurd (not_both (refused_questions (length out)) refused_refusal x.0 y.0)
refused_pins refusal out out₁ out₂ (Err Output) (Ok n) x y = absurd (not_both (refused_questions (length out)) refused_refusal y.0 x.0)
refused_pins refusal out out₁ out₂ (Err Output) (Err Output) x y = (refl, x.1 ∙ sym y.1)

tells_pin : (answer : Result ℕ PlayFault) (written out₁ out₂ : List ℕ) (r r' : Result ℕ RefusedFault) → Tells answer written r out₁
    → Tells answer written r' out₂ → (r ≡ r') × (out₁ ≡ out₂)
tells_pin (Ok n) written out₁ out₂ r r' x y = (x.0 ∙ sym y.0, x.1 ∙ sym y.1)
tells_pin (Err f) written out₁ out₂ r r' x y = refused_pins (play_fault f) written out₁ out₂ r r' x y

module _ {C H : Type 0} (k : Members C) (ends_pin : OutcomesPin k) (e : Entrant C H) (once : (bytes : List ℕ) (x y : H) → e.in_bytes bytes x → e.in_bytes bytes y → x ≡ y) where
  pub reply_pins : ReplyPins k e
  reply_pins file cells cells₁ cells₂ out out₁ out₂ r r' x y =
      let same =
      play_pins k ends_pin e once file cells cells₁ cells₂ out x.written y.written x.answer y.answer x.plays y.plays in
      let told =
      tells_pin y.answer y.written out₁ out₂ r r'
      (subst (λ w. Tells y.answer w r out₁) same.2 (subst (λ a. Tells a x.written r out₁) same.0 x.tells)) y.tells in
      (told.0, same.1, told.1)
