use Rattle.std.proofs.lemmas.Slice.{pushed}
use Rattle.toom.specs.Shadow.{marks}
use Rattle.thin.proofs.Pictures.{row_more}
use Rattle.thin.proofs.trace.push_row.Goals as goal

pub loop-column-preserved : goal.loop-column-preserved
loop-column-preserved c =
    row_more (marks c.args.shadow.now) c.args.row c.loop-column.column _ _
    (pushed c.mark_of.result.now c.loop-column.invariant c.in_ok-push_str.was c.push_str.ensures.bytes)
    c.mark_of.ensures
