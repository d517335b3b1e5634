use Rattle.toom.proofs.Emptiness.{clear_rows}
use Rattle.toom.proofs.shadow.Shadow.is_empty.Goals as goal

pub returns : goal.returns
returns c =
    let rows = c.are_clear.ensures in
    let places = clear_rows c.args.self.now in
    (λ yes. places.0 (rows.0 yes), λ clear. rows.1 (places.1 clear))
