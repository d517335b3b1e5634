use Rattle.std.proofs.Common.{◌+◌, ◌*◌, get_or, inr, arith}
use Rattle.hosts.specs.Ring.{stepped}
use Rattle.plate.specs.Sweep.{Steps}
use Rattle.plate.specs.Wounds.{strand_at}
use Rattle.plate.proofs.WrittenPlaces.{strand_within, strand_written}
use Rattle.plate.proofs.strand.step_strand.Goals as goal

pub step_ring-requires : goal.step_ring-requires
step_ring-requires g c =
    let to = strand_within c.args.shape.planes c.args.shape.side c.args.row c.args.column c.requires.row c.requires.column in
    let copies = c.copies.ensures in
    record {
      some = omega arith;
      to = omega (arith, to, copies);
      from = omega (arith, to, copies);
      apart = inr (omega (arith, to, copies));
    }

pub returns : goal.returns
returns g c =
    let n = c.args.shape.planes in
    let side = c.args.shape.side in
    let host = g.H.Host.meaning c.args.host.now in
    let row = c.args.row in
    let column = c.args.column in
    let old = c.args.cells.now in
    let from = (row * side + column) * n in
    strand_written n side (n * (side * side)) (λ k p q d. stepped host n (λ m. get_or old (strand_at n side m p q) d) k) row column (c.copies.result + from)
    c.requires.row c.requires.column (omega (arith, c.copies.ensures)) (Steps host from n old) old c.step_ring.new.cells c.step_ring.ensures
    (λ j d x hj is. is)
