use Rattle.std.proofs.Common.{arith}
use Rattle.plate.specs.Sweep.{HostAnswers}
use Rattle.plate.proofs.Sweeps.{swept_more, read_old}
use Rattle.plate.proofs.sweep.fill.Goals as goal

pub loop-j-preserved : goal.loop-j-preserved
loop-j-preserved g c =
    let to = c.args.to in
    let n = c.args.count in
    let j = c.loop-j.j in
    let old = c.args.cells.now in
    let xs = c.loop-j.cells in
    let wanted = HostAnswers (g.H.Host.meaning c.args.host.now) c.args.a c.args.b c.args.c old in
    let inv = c.loop-j.invariant in
    swept_more to j wanted old xs c.answer.result inv (omega arith) λ d.
    let left = read_old to c.args.a n j wanted old xs _ inv c.requires.left c.loop-j-test.true (omega arith) c.index-cells-a.is d in
    let centre = read_old to c.args.b n j wanted old xs _ inv c.requires.centre c.loop-j-test.true (omega arith) c.index-cells-b.is d in
    let right = read_old to c.args.c n j wanted old xs _ inv c.requires.right c.loop-j-test.true (omega arith) c.index-cells-c.is d in
    cc
