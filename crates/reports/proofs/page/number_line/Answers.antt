use Rattle.std.proofs.Common.{decimal}
use Rattle.reports.proofs.Lines.{line_written}
use Rattle.reports.proofs.page.number_line.Goals as goal

pub returns : goal.returns
returns c =
    line_written c.args.text.now c.args.word.now (decimal c.args.n) c.requires c.push_str.ensures c.push_decimal.ensures
    c.end_line.ensures
