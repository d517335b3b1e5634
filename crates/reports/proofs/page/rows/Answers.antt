use Rattle.std.proofs.Common.{arith}
use Rattle.reports.proofs.Rows.{any_row_fits, next_row, row_fits, row_more, rows_done}
use Rattle.reports.proofs.page.rows.Goals as goal

pub row_line-requires-clause-room : goal.row_line-requires-clause-room
row_line-requires-clause-room c =
    any_row_fits c.loop-row.text _ c.in-Some.row_hurts.now c.args.shadow.now c.in-Some.row
    (row_fits c.args.hurts.now c.args.shadow.now c.requires.map (omega (arith, c.side.ensures.side, c.side.ensures.sized.0)) c.loop-row.row-iterator c.next.new.self c.loop-row.invariant.at
    c.in-Some.row c.in-Some.row_hurts c.in-Some.ensures.steps c.requires.room c.loop-row.invariant.wrote)

pub loop-row-preserved : goal.loop-row-preserved
loop-row-preserved c =
    let at = c.loop-row.invariant.at in
    let step = c.in-Some.ensures.steps in record {
      at = next_row c.args.hurts.now c.args.shadow.now c.requires.map (omega (arith, c.side.ensures.side, c.side.ensures.sized.0)) c.loop-row.row-iterator c.next.new.self at c.in-Some.row c.in-Some.row_hurts
          step;
      wrote = row_more c.args.hurts.now c.args.shadow.now c.requires.map (omega (arith, c.side.ensures.side, c.side.ensures.sized.0)) c.loop-row.row-iterator c.next.new.self at c.in-Some.row
          c.in-Some.row_hurts step c.requires.room c.loop-row.invariant.wrote c.row_line.ensures;
    }

pub returns : goal.returns
returns c =
    rows_done c.args.hurts.now c.args.shadow.now c.requires.map (omega (arith, c.side.ensures.side, c.side.ensures.sized.0)) c.loop-row.row-iterator c.next.new.self c.loop-row.invariant.at
    c.in-None.ensures.steps.0 c.loop-row.invariant.wrote
