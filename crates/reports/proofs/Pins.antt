-- Two ends of one report are the same.
use Rattle.std.proofs.Common.{◌≡◌, ℕ, List, ◌++◌, length, drop, Ok, Err, sym, refl, ap, ◌∙◌, ap₂, arith}
use Rattle.plate.specs.Board.{Board}
use Rattle.plate.specs.Members.{Members}
use Rattle.plate.proofs.PinnedLaid.{one_stands}
use Rattle.plate.proofs.Standing.{not_both, some_same}
use Rattle.reports.specs.declared.fault.ReportFault.TheVariants.{Bare, Output}
use Rattle.reports.specs.Report.{report_of}
use Rattle.reports.specs.ReportCall.{Reports, report_fault}
use Rattle.reports.specs.ReportPins.{ReportFaultsPin, ReportPins}
use Rattle.plate.proofs.PinnedEffects.{some_cell}

pub fault_pins : ReportFaultsPin
fault_pins Bare Bare same = refl
fault_pins Bare Output same = let z : ◌≡◌ {A = ℕ} 6 15 = ap (λ r. r.number) same in absurd (omega arith)
fault_pins Output Bare same = let z : ◌≡◌ {A = ℕ} 15 6 = ap (λ r. r.number) same in absurd (omega arith)
fault_pins Output Output same = refl

module _ {C : Type 0} (k : Members C) where
  pub reports_pin : (b : Board C) (before after after' : List ℕ) (n n' : ℕ) → Reports k b n before after → Reports k b n' before after'
      → (n ≡ n') × (after ≡ after')
  reports_pin b before after after' n n' x y =
      let same = one_stands b x.stood y.stood x.standing_before y.standing_before in
      let d = some_cell b x.stood x.standing_before in
      let told = ap (λ l. report_of k l b.cells d) same in
      let long = x.answers d ∙ ap length told ∙ sym (y.answers d) in
      (long, x.out d ∙ ap₂ (λ page m. page ++ drop m before) told long ∙ sym (y.out d))

  pub report_pins : ReportPins k
  report_pins b before after after' (Ok n) (Ok n') x y = let both = reports_pin b before after after' n n' x.1 y.1 in (ap Ok both.0, both.1)
  report_pins b before after after' (Ok n) (Err e) x y = absurd (not_both _ (report_fault e) x.0 y.0)
  report_pins b before after after' (Err e) (Ok n) x y = absurd (not_both _ (report_fault e) y.0 x.0)
  report_pins b before after after' (Err e) (Err f) x y =
      (ap Err (fault_pins e f (some_same _ _ (sym x.0 ∙ y.0))), x.1 ∙ sym y.1)
