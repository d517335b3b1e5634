use Rattle.std.proofs.Common.{[], ◌∷◌, ap₂}
use Rattle.reports.proofs.Texts.{appends_as, appends_more}
use Rattle.reports.proofs.text.Text.push_pair.Goals as goal

pub returns : goal.returns
returns c =
    appends_as (ap₂ (λ high low. high ∷ low ∷ []) c.hex_digit.ensures c.hex_digit-2.ensures)
    (appends_more c.push.ensures (c.hex_digit-2.result ∷ []) c.requires c.push-2.ensures)
