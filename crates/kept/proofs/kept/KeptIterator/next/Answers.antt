use Rattle.std.proofs.Common.{arith}
use Rattle.kept.specs.KeptFile.{pair_of}
use Rattle.kept.proofs.Pairs.{shorter}
use Rattle.kept.proofs.kept.KeptIterator.next.Goals as goal

pub returns-in-Some-clause-goes : goal.returns-in-Some-clause-goes
returns-in-Some-clause-goes c =
    let less = shorter c.args.self.now.rest.now (pair_of c.in-Some.round) c.in-Some.rest.now c.in-Some.ensures in
    record {
      on = λ _. (tt, tt, omega (arith, less));
      keeps = tt;
      rests = λ _. tt;
    }
