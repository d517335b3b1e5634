use Rattle.std.proofs.Common.{sym, arith}
use Rattle.plate.proofs.Majorities.{majority_some, majority_none}
use Rattle.plate.proofs.majority.majority.Goals as goal

pub returns-then-count_same-plane : goal.returns-then-count_same-plane
returns-then-count_same-plane g c =
    sym (majority_some g.C.PartialEq.eq g.met.C.Kind.exact c.args.plane.now c.candidate-cell.result c.candidate-cell.ensures
    (omega arith))

pub returns-else-count_same-plane : goal.returns-else-count_same-plane
returns-else-count_same-plane g c =
    sym (majority_none g.C.PartialEq.eq g.met.C.Kind.exact c.args.plane.now c.candidate-cell.result c.candidate-cell.ensures
    (omega arith))
