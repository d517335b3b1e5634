use Rattle.toom.specs.Shadow.{marks, side_of_shadow}
use Rattle.std.proofs.Common.{string_bytes}
use Rattle.thin.specs.Picture.{row_line}
use Rattle.thin.proofs.Pictures.{joined_more_row}
use Rattle.thin.proofs.trace.push_picture.Goals as goal

pub loop-row-preserved : goal.loop-row-preserved
loop-row-preserved c =
    joined_more_row (row_line (side_of_shadow c.args.shadow.now) (marks c.args.shadow.now)) (string_bytes c.args.text.now) c.loop-row.row
    c.loop-row.invariant c.in_ok-push_row.ensures
