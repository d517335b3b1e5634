use Rattle.std.proofs.Common.{get_or}
use Rattle.std.specs.List.{range_with_len, flat_map}
use Rattle.toom.specs.Shadow.{marks, side_of_shadow}
use Rattle.reports.specs.Report.{row_line}
use Rattle.reports.specs.Text.{Appends}
use Rattle.reports.proofs.Rows.{AtRow}
use Rattle.reports.proofs.page.rows.Given as goal

abbrev pub invariant-loop-row : goal.invariant-loop-row
invariant-loop-row l = record {
  at : AtRow l.hurts (side_of_shadow l.shadow) l.row-iterator;
  wrote : Appends l.initial.text (flat_map (row_line (side_of_shadow l.shadow) (λ j. get_or l.hurts j 0) (marks l.shadow)) (range_with_len 0 l.row-iterator.count)) l.text;
}
