use Rattle.std.proofs.Common.{◌+◌, true, inl, inr, arith}
use Rattle.std.proofs.lemmas.Bool.{cases_lt}
use Rattle.toom.specs.Vote.{voted}
use Rattle.plate.specs.Wounds.{seen, strand_at}
use Rattle.plate.proofs.WrittenPlaces.{votes_stay, written_join, written_same}
use Rattle.plate.proofs.resting.vote_lying_stretch.Goals as goal

pub returns-then-inner-stretch : goal.returns-then-inner-stretch
returns-then-inner-stretch g c =
    let n = c.args.shape.planes in
    let side = c.args.shape.side in
    let equal = g.C.PartialEq.eq in
    let x = c.args.stretch in
    let old = c.args.cells.now in
    let mid = c.vote_part.new.cells in
    let first = c.vote_part.ensures in
    let columns = c.requires.columns in
    let inner = c.min-inner.ensures in
    written_join n side 0 (strand_at n side) _ (λ k p q d. voted equal side (seen (λ r q. true) mid n side d k) p q) _ _ _ old mid c.vote_part-then-inner-stretch.new.cells
    first c.vote_part-then-inner-stretch.ensures
    (λ k p q d hk hp hq _. votes_stay equal n side (λ r q. true) old mid first.outside k p q d)
    (λ k p q a b. omega (arith, a.1.1, b.1.0, inner))
    (λ k p q hp hq here.
    elim (cases_lt q (x.column + c.min-inner.result)) [
      | inl l ↦ inl (here.0, (here.1.0, l))
      | inr h ↦ inr (here.0, (omega (arith, here.1.1, columns, inner), omega (arith, hq)))
    ])
    (λ k p q a. (a.0, (a.1.0, omega (arith, a.1.1, inner))))
    (λ k p q hp hq b. (b.0, (omega (arith, b.1.0, columns, inner), omega (arith, b.1.0, b.1.1, columns, inner, c.if-inner-stretch.true))))

pub returns-else-inner-stretch : goal.returns-else-inner-stretch
returns-else-inner-stretch g c =
    let n = c.args.shape.planes in
    let side = c.args.shape.side in
    written_same n side 0 (strand_at n side) _ _ _ c.args.cells.now c.vote_part.new.cells c.vote_part.ensures
    (λ k p q hk hp hq a. (a.0, (a.1.0, omega (arith, a.1.1, c.min-inner.ensures))))
    (λ k p q hk hp hq b. (b.0, (b.1.0, omega (arith, b.1.1, c.if-inner-stretch.false))))
