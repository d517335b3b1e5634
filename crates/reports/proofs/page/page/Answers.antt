use Rattle.reports.proofs.Pages.{rows_fit, last_fits, page_written}
use Rattle.reports.proofs.page.page.Goals as goal

pub rows-requires-clause-room : goal.rows-requires-clause-room
rows-requires-clause-room c =
    rows_fit c.args.laid.now c.args.hurts.now c.args.reading c.requires.map c.args.text.now c.requires.room
    c.number_line.ensures c.count.result c.count.ensures c.number_line-2.ensures c.sum.result c.sum.ensures
    c.number_line-3.ensures

pub last_line-requires : goal.last_line-requires
last_line-requires c =
    last_fits c.args.laid.now c.args.hurts.now c.args.reading c.requires.map c.args.text.now c.requires.room
    c.number_line.ensures c.count.result c.count.ensures c.number_line-2.ensures c.sum.result c.sum.ensures
    c.number_line-3.ensures c.rows.ensures

pub returns : goal.returns
returns c =
    page_written c.args.laid.now c.args.hurts.now c.args.reading c.requires.map c.args.text.now c.requires.room
    c.number_line.ensures c.count.result c.count.ensures c.number_line-2.ensures c.sum.result c.sum.ensures
    c.number_line-3.ensures c.rows.ensures c.last_line.ensures
