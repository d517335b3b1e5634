use Rattle.std.proofs.Common.{refl, ap, ◌∙◌}
use Rattle.std.proofs.lemmas.Bool.{cond-true, lt-ltb}
use Rattle.plate.specs.BeatCall.{beat_questions_of}
use Rattle.plate.specs.Plates.{board}
use Rattle.plate.proofs.Standing.{stands}
use Rattle.plate.proofs.plate.Plate.try_beat.Goals as goal

pub returns : goal.returns
returns g c =
    let l = c.in_ok-laid.laid in
    let b = board c.args.self.now in
    let stood = stands b c.standing.result l c.standing.ensures c.in_ok-laid.ensures.ok_part in
    record {
      outcome = (
        ap beat_questions_of stood ∙ cond-true _ _ _ (lt-ltb l.age 1048575 c.if-laid-ge-MAX_AGE.false),
        record {
          stood = l;
          kept = _;
          standing_before = stood;
          stands = refl;
          planes = refl;
          age = refl;
          shadow = c.vote.ensures;
          cells = rw (c.shape.ensures.planes, c.shape.ensures.side) at c.beat_cells.ensures;
        },
      );
      same = refl;
    }
