-- Every report fits in 12,396 bytes.
use Rattle.std.specs.Prelude.{◌≤◌, List, length}
use Rattle.plate.specs.declared.laid.Laid.{Laid}
use Rattle.plate.specs.Members.{Members}
use Rattle.reports.specs.Report.{report_of}
use Rattle.reports.specs.ReportCall.{report_bytes}

abbrev pub ReportFits : {C : Type 0} → Members C → Type 0
ReportFits {C} k = (l : Laid) (cells : List C) (d : C) → length (report_of k l cells d) ≤ report_bytes
