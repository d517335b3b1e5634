use Rattle.std.proofs.Common.{inr, arith, mul-le-mul_right}
use Rattle.plate.proofs.SteppedStretches.{all_stepped, ends_stepped, inner_stepped}
use Rattle.plate.proofs.WrittenPlaces.{strands_within}
use Rattle.plate.proofs.strands.step_swept.Goals as goal

pub fill-requires : goal.fill-requires
fill-requires g c =
    let n = c.args.shape.planes in
    let side = c.args.shape.side in
    let x = c.args.stretch in
    let strands = strands_within n side x.row x.column x.length c.requires.row c.requires.columns in
    let copies = c.copies.ensures in
    let some = mul-le-mul_right {m = 1} {n = x.length} n c.requires.some in
    record {
      to = omega (arith, strands, copies, some);
      a = omega (arith, strands, some);
      b = omega (arith, strands, some);
      c = omega (arith, strands, some);
      left = inr (omega (arith, strands, copies, some));
      centre = inr (omega (arith, strands, copies, some));
      right = inr (omega (arith, strands, copies, some));
    }

pub loop-column-init : goal.loop-column-init
loop-column-init g c =
    inner_stepped (g.H.Host.meaning c.args.host.now) c.args.shape.planes c.args.shape.side c.requires.planes c.args.stretch c.requires.row c.requires.columns
    c.requires.some _ _ (omega (arith, c.copies.ensures)) (omega arith) c.args.cells.now c.fill.new.cells c.fill.ensures

pub loop-column-preserved : goal.loop-column-preserved
loop-column-preserved g c =
    ends_stepped (g.H.Host.meaning c.args.host.now) c.args.shape.planes c.args.shape.side c.args.stretch c.loop-column.column (omega arith)
    c.loop-column-test.true c.args.cells.now c.loop-column.cells c.step_ends.new.cells c.loop-column.invariant c.step_ends.ensures

pub returns : goal.returns
returns g c =
    all_stepped (g.H.Host.meaning c.args.host.now) c.args.shape.planes c.args.shape.side c.args.stretch c.loop-column.column c.loop-column-test.false
    c.args.cells.now c.loop-column.cells c.loop-column.invariant
