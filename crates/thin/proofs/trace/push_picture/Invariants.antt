use Rattle.std.proofs.Common.{◌≡◌, ◌++◌, string_bytes}
use Rattle.std.specs.List.{range_with_len, flat_map}
use Rattle.toom.specs.Shadow.{marks, side_of_shadow}
use Rattle.thin.specs.Picture.{row_line}
use Rattle.thin.proofs.trace.push_picture.Given as goal

abbrev pub invariant-loop-row : goal.invariant-loop-row
invariant-loop-row l =
    string_bytes l.text ≡ string_bytes l.initial.text ++ flat_map (row_line (side_of_shadow l.shadow) (marks l.shadow)) (range_with_len 0 l.row)
