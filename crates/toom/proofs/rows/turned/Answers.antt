use Rattle.toom.proofs.Turns.{turned_narrow, turned_columns}
use Rattle.toom.proofs.rows.turned.Goals as goal

pub returns : goal.returns
returns c =
    let side = c.args.side in
    let row = c.args.row in
    record {
      narrow = turned_narrow side row c.requires.side c.requires.row;
      columns = turned_columns side row c.requires.side c.requires.row;
    }
