-- The report, written into an empty text over the whole output.
use Rattle.std.proofs.Common.{◌≡◌, ℕ, ◌+◌, ◌≤◌, List, ◌++◌, length, take, drop, Some, ap, ◌∙◌, ap₂, arith}
use Rattle.plate.specs.declared.laid.Laid.{Laid}
use Rattle.plate.specs.Board.{Board, side_of, standing}
use Rattle.plate.specs.Members.{Members}
use Rattle.reports.specs.declared.text.Text.{Text}
use Rattle.reports.specs.Report.{report_of}
use Rattle.reports.specs.ReportCall.{Reports}
use Rattle.reports.specs.Text.{Appends, Fits}
use Rattle.plate.proofs.PinnedEffects.{some_cell}
use Rattle.reports.proofs.Rooms.{report_fits}

module _ {C : Type 0} (k : Members C) (b : Board C) (l : Laid) (stands : standing b ≡ Some l) (whole : List ℕ)
    (told : (d : C) → whole ≡ report_of k l b.cells d) (out : List ℕ) (text : Text) (empty : text.len ≡ 0) (over : text.bytes.now ≡ out) where
  pub whole_fits : side_of l ≤ 64 → 12396 ≤ length out → Fits text whole
  whole_fits narrow enough =
      let d = some_cell b l stands in
      omega (arith, ap length (told d), report_fits k l narrow b.cells d, ap length over)

  pub reports : {end : Text} {after : List ℕ} {answer : ℕ} → Appends text whole end → answer ≡ end.len → after ≡ end.bytes.now
      → Reports k b answer out after
  reports {end} {after} {answer} wrote answer-is after_is = record {
    stood = l;
    standing_before = stands;
    answers = λ d. long ∙ ap length (told d);
    out = λ d. after_is ∙ wrote.bytes ∙ ap₂ (λ n bytes. take n bytes ++ (whole ++ drop (n + length whole) bytes)) empty over
        ∙ ap₂ (λ page n. page ++ drop n out) (told d) (omega (arith, long));
  }
    where
      long : answer ≡ length whole
      long = omega (arith, answer-is, wrote.len, empty)
