use Rattle.plate.proofs.BeatenBy.{beaten_join}
use Rattle.plate.proofs.many.beats_of_a_look.Goals as goal

pub returns-clause-beaten : goal.returns-clause-beaten
returns-clause-beaten g c =
    beaten_join g.C.PartialEq.eq (g.H.Host.meaning c.args.host.now) c.args.shape.planes c.args.shape.side c.beats_by_wounds-quick.result c.min-dense.result
    c.args.cells.now c.beats_by_wounds-quick.new.cells c.dense_beats.new.cells c.beats_by_wounds-quick.ensures.beaten c.dense_beats.ensures
