use Rattle.reports.specs.Text.{Appends}
use Rattle.reports.proofs.Rows.{marks_below}
use Rattle.reports.proofs.page.row_line.Given as goal

abbrev pub invariant-loop-column : goal.invariant-loop-column
invariant-loop-column l = Appends l.initial.text (marks_below l.hurts l.shadow l.row l.column) l.text
