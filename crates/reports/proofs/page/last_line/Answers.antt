use Rattle.std.proofs.Common.{sym, ap}
use Rattle.reports.specs.Page.{reading_line}
use Rattle.reports.proofs.Texts.{appends_as}
use Rattle.reports.proofs.page.last_line.Goals as goal

pub returns-in-Err : goal.returns-in-Err
returns-in-Err c = appends_as (sym (ap reading_line c.in-Err.is)) c.number_line.ensures
