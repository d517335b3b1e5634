use Rattle.std.proofs.Common.{◌≡◌, ◌+◌, ◌*◌, subst, arith}
use Rattle.plate.proofs.SweptSquares.{Voted, cell_old, square_more}
use Rattle.plate.proofs.sweep.vote_squares.Goals as goal

pub loop-i-preserved : goal.loop-i-preserved
loop-i-preserved g c =
    let equal = g.C.PartialEq.eq in
    let n = c.args.planes in
    let old = c.args.cells.now in
    let i = c.loop-i.i in
    let at = i * (2 * 2) in
    let below = c.loop-i-test.true in
    let read = cell_old equal n old i in
    let inv = c.loop-i.invariant in
    let mid = c.loop-i.cells in
    let a = read 0 0 at mid c.cell_at-a.result below (omega arith) (omega arith) inv _ (omega arith) c.cell_at-a.ensures in
    let b = read 0 1 at mid c.cell_at-b.result below (omega arith) (omega arith) inv _ (omega arith) c.cell_at-b.ensures in
    let under_a = read 1 0 at mid c.cell_at-c.result below (omega arith) (omega arith) inv _ (omega arith) c.cell_at-c.ensures in
    let under_b = read 1 1 at mid c.cell_at-d.result below (omega arith) (omega arith) inv _ (omega arith) c.cell_at-d.ensures in
    let first =
    square_more equal n old i 0 0 at mid c.put.new.cells below (omega arith) (omega arith) (omega arith) (omega arith) inv
    _ (omega arith) c.put.ensures c.vote.ensures under_a b a in
    let second =
    square_more equal n old i 0 1 (at + 1) c.put.new.cells c.put-in-loop-i.new.cells below (omega arith) (omega arith) (omega arith) (omega arith) first
    _ (omega arith) c.put-in-loop-i.ensures c.vote-in-loop-i.ensures under_b a b in
    let third =
    square_more equal n old i 1 0 (at + 1 + 1) c.put-in-loop-i.new.cells c.put-in-loop-i-2.new.cells
    below (omega arith) (omega arith) (omega arith) (omega arith) second
    _ (omega arith) c.put-in-loop-i-2.ensures c.vote-in-loop-i-2.ensures a under_b under_a in
    let last =
    square_more equal n old i 1 1 (at + 1 + 1 + 1) c.put-in-loop-i-2.new.cells c.put-in-loop-i-3.new.cells
    below (omega arith) (omega arith) (omega arith) (omega arith) third
    _ (omega arith) c.put-in-loop-i-3.ensures c.vote-in-loop-i-3.ensures b under_a under_b in
    subst (λ m. Voted equal n old m c.put-in-loop-i-3.new.cells) (let e : at + 1 + 1 + 1 + 1 ≡ (i + 1) * (2 * 2) = omega arith in e) last
