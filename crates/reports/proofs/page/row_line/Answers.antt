use Rattle.std.proofs.Common.{◌≡◌, [], get_or, ap, ◌∙◌, arith}
use Rattle.toom.specs.Shadow.{side_of_shadow}
use Rattle.reports.proofs.Lines.{line_written}
use Rattle.reports.proofs.Rows.{marks_below, mark_fits, mark_more}
use Rattle.reports.proofs.Texts.{appends_as, appends_none}
use Rattle.reports.specs.Report.{place_mark}
use Rattle.reports.proofs.page.row_line.Goals as goal

pub push-requires : goal.push-requires
push-requires c =
    mark_fits c.args.hurts.now c.args.shadow.now c.args.row c.args.text.now c.requires.room c.loop-column.column
    (c.requires.row, omega (arith, c.requires.map)) c.loop-column.invariant

pub loop-column-preserved : goal.loop-column-preserved
loop-column-preserved c =
    mark_more c.args.hurts.now c.args.shadow.now c.args.row c.args.text.now c.requires.room c.loop-column.column
    (c.requires.row, omega (arith, c.requires.map)) c.loop-column.invariant c.place_mark.result c.holds.result c.holds.ensures
    (c.place_mark.ensures ∙ ap (place_mark (get_or c.args.hurts.now c.loop-column.column 0)) c.unwrap_or-shadowed.ensures)
    c.push.ensures

pub returns : goal.returns
returns c =
    let a = c.args.text.now in
    let row = marks_below c.args.hurts.now c.args.shadow.now c.args.row in
    let last : c.loop-column.column ≡ side_of_shadow c.args.shadow.now = omega (arith, c.requires.map) in
    line_written a [] (row (side_of_shadow c.args.shadow.now)) c.requires.room (appends_none a) (appends_as (ap row last) c.loop-column.invariant)
    c.end_line.ensures
