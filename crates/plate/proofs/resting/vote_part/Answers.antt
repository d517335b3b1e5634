use Rattle.std.proofs.Common.{◌≡◌, ℕ, ◌+◌, ◌*◌, ◌<◌, get_or, sym, ap, ◌∙◌, inl, arith, add-mul, true}
use Rattle.toom.specs.Torus.{next}
use Rattle.toom.specs.Vote.{vote_of, voted}
use Rattle.plate.specs.Sweep.{HostAnswers}
use Rattle.plate.specs.Wounds.{seen}
use Rattle.plate.proofs.Sweeps.{three}
use Rattle.plate.proofs.SweptPlaces.{next_below}
use Rattle.plate.proofs.WrittenPlaces.{places_within, strands_within, strands_written}
use Rattle.plate.proofs.resting.vote_part.Goals as goal

pub overflow_mul-east : goal.overflow_mul-east
overflow_mul-east g c =
    let east = places_within c.args.shape.planes c.args.shape.side c.args.east c.args.stretch.length c.requires.within in
    omega (arith, east, c.requires.cells)

pub overflow_add-strands-2 : goal.overflow_add-strands-2
overflow_add-strands-2 g c =
    let east = places_within c.args.shape.planes c.args.shape.side c.args.east c.args.stretch.length c.requires.within in
    omega (arith, east, c.copies-strands.ensures, c.requires.cells)

pub fill-requires : goal.fill-requires
fill-requires g c =
    let n = c.args.shape.planes in
    let side = c.args.shape.side in
    let x = c.args.stretch in
    let own = strands_within n side x.row x.column x.length c.requires.row c.requires.columns in
    let up : c.after.result < side = omega (arith, c.after.ensures, next_below side x.row c.requires.row) in
    let north = strands_within n side c.after.result x.column x.length up c.requires.columns in
    let east = places_within n side c.args.east x.length c.requires.within in
    record {
      to = omega (arith, own);
      a = omega (arith, north, c.copies-strands.ensures);
      b = omega (arith, east, c.copies-strands.ensures);
      c = omega (arith, own, c.copies-strands.ensures);
      left = inl (omega (arith, own, c.copies-strands.ensures));
      centre = inl (omega (arith, own, c.copies-strands.ensures));
      right = inl (omega (arith, own, c.copies-strands.ensures));
    }

pub returns : goal.returns
returns g c =
    let n = c.args.shape.planes in
    let side = c.args.shape.side in
    let equal = g.C.PartialEq.eq in
    let x = c.args.stretch in
    let old = c.args.cells.now in
    strands_written n side 0 (λ k p q d. voted equal side (seen (λ r q. true) old n side d k) p q) x.row x.column x.length _ c.requires.row c.requires.columns
    (omega arith) (HostAnswers (vote_of equal) _ _ _ old) old c.fill.new.cells c.fill.ensures
    (λ q k d y hq hk is.
    is
    ∙ three (vote_of equal) (ap (λ m. get_or old m d) (lies (c.after.result * side + x.column) q k (next side x.row * side + (x.column + q)) (omega (arith, ap (λ m. m * side) c.after.ensures))))
    (ap (λ m. get_or old m d) (lies c.args.east q k _ (sym (c.requires.east q hq)))) (ap (λ m. get_or old m d) (lies (x.row * side + x.column) q k (x.row * side + (x.column + q)) (omega arith))))
  where
    -- Where the cell of plane k in the q-th strand from place p on lies, if that strand is of place m.
    lies : (p q k m : ℕ) → p + q ≡ m → c.copies-strands.result + p * c.args.shape.planes + (q * c.args.shape.planes + k) ≡ c.args.shape.planes * (c.args.shape.side * c.args.shape.side) + (m * c.args.shape.planes + k)
    lies p q k m same = omega (arith, c.copies-strands.ensures, add-mul p q c.args.shape.planes, ap (λ j. j * c.args.shape.planes) same)
