use Rattle.std.proofs.Common.{◌≡◌, sum_by, ◌∙◌, rules}
use Rattle.plate.proofs.Totals.{sum_by_places}
use Rattle.reports.proofs.page.sum.Goals as goal

pub returns : goal.returns
returns c =
    let hurts = c.args.hurts.now in
    let summed : c.sum.result ≡ sum_by (λ hurt. hurt) hurts = search rules in
    summed ∙ sum_by_places (λ hurt. hurt) hurts 0
