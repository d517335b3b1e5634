use Rattle.std.proofs.Common.{◌≡◌, ◌+◌, ◌*◌, ◌<◌, ◌≤◌, get_or, ap, ◌∙◌, inl, arith}
use Rattle.toom.specs.Shadow.{marks}
use Rattle.toom.specs.Vote.{vote_of, voted}
use Rattle.plate.specs.Sweep.{HostAnswers}
use Rattle.plate.specs.Wounds.{seen, seen_at}
use Rattle.plate.proofs.Sweeps.{three}
use Rattle.plate.proofs.SweptPlaces.{next_below}
use Rattle.plate.proofs.WrittenPlaces.{seen_first, seen_last, strand_within, strand_written}
use Rattle.plate.proofs.strand.vote_strand.Goals as goal

pub fill-requires : goal.fill-requires
fill-requires g c =
    let n = c.args.shape.planes in
    let side = c.args.shape.side in
    let row = c.args.row in
    let column = c.args.column in
    let w = marks c.args.wounds.now in
    let up : c.after.result < side = omega (arith, c.after.ensures, next_below side row c.requires.row) in
    let beside : c.after-2.result < side = omega (arith, c.after-2.ensures, next_below side column c.requires.column) in
    let to = strand_within n side row column c.requires.row c.requires.column in
    let north = c.source_of-north.ensures in
    let east = c.source_of-east.ensures in
    let own = c.source_of-own.ensures in
    let some : 1 ≤ n = omega arith in
    record {
      to = omega (arith, to);
      a = omega (arith, seen_last w n side c.after.result column c.source_of-north.result some up c.requires.column north);
      b = omega (arith, seen_last w n side row c.after-2.result c.source_of-east.result some c.requires.row beside east);
      c = omega (arith, seen_last w n side row column c.source_of-own.result some c.requires.row c.requires.column own);
      left = inl (omega (arith, to, seen_first w n side c.after.result column c.source_of-north.result some up c.requires.column north));
      centre = inl (omega (arith, to, seen_first w n side row c.after-2.result c.source_of-east.result some c.requires.row beside east));
      right = inl (omega (arith, to, seen_first w n side row column c.source_of-own.result some c.requires.row c.requires.column own));
    }

pub returns : goal.returns
returns g c =
    let n = c.args.shape.planes in
    let side = c.args.shape.side in
    let equal = g.C.PartialEq.eq in
    let row = c.args.row in
    let column = c.args.column in
    let w = marks c.args.wounds.now in
    let old = c.args.cells.now in
    let at : (row * side + column) * n ≡ 0 + (row * side + column) * n = omega arith in
    strand_written n side 0 (λ k p q d. voted equal side (seen w old n side d k) p q) row column _ c.requires.row c.requires.column at
    (HostAnswers (vote_of equal) c.source_of-north.result c.source_of-east.result c.source_of-own.result old) old c.fill.new.cells c.fill.ensures
    (λ j d x hj is.
    is
    ∙ three (vote_of equal)
    (ap (λ m. get_or old m d) (c.source_of-north.ensures j ∙ ap (λ m. seen_at w n side j m column) c.after.ensures))
    (ap (λ m. get_or old m d) (c.source_of-east.ensures j ∙ ap (λ m. seen_at w n side j row m) c.after-2.ensures))
    (ap (λ m. get_or old m d) (c.source_of-own.ensures j)))
