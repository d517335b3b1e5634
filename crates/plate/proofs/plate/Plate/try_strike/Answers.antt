use Rattle.std.proofs.Common.{◌≡◌, set, None, refl, ap, ◌∙◌, subst}
use Rattle.plate.specs.Board.{side_of}
use Rattle.plate.specs.Layout.{copy_at}
use Rattle.plate.specs.Plates.{board}
use Rattle.plate.specs.StrikeCall.{place_questions, strike_questions_of}
use Rattle.plate.proofs.Standing.{stands}
use Rattle.plate.proofs.plate.Plate.try_strike.Goals as goal

pub returns : goal.returns
returns g c =
    let k = g.C.Kind.cell_of in
    let l = c.in_ok-laid.laid in
    let b = board c.args.self.now in
    let stood = stands b c.standing.result l c.standing.ensures c.in_ok-laid.ensures.ok_part in
    let checked = c.in_ok-cell.ensures in
    let good : place_questions k l.planes (side_of l) c.args.strike.plane c.args.strike.row c.args.strike.column c.args.strike.byte ≡ None =
    subst (λ x. place_questions k l.planes x c.args.strike.plane c.args.strike.row c.args.strike.column c.args.strike.byte ≡ None) c.side-side.ensures.side checked.0 in
    record {
      outcome = (
        ap (λ o. strike_questions_of k o c.args.strike.plane c.args.strike.row c.args.strike.column c.args.strike.byte) stood ∙ good,
        record {
          stood = l;
          kept = _;
          cell = c.in_ok-cell.cell;
          standing_before = stood;
          stands = refl;
          names = checked.1;
          planes = refl;
          age = refl;
          shadow = c.in_ok-add.ensures.1;
          cells = c.put.ensures ∙ ap (λ x. set b.cells (copy_at x c.args.strike.plane c.args.strike.row c.args.strike.column) c.in_ok-cell.cell) c.side-side.ensures.side;
        },
      );
      same = refl;
    }
