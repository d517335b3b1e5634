use Rattle.std.proofs.Common.{◌≡◌, ◌++◌, string_bytes}
use Rattle.toom.specs.Shadow.{marks}
use Rattle.thin.specs.Picture.{row_marks}
use Rattle.thin.proofs.trace.push_row.Given as goal

abbrev pub invariant-loop-column : goal.invariant-loop-column
invariant-loop-column l = string_bytes l.text ≡ string_bytes l.initial.text ++ row_marks (marks l.shadow) l.row l.column
