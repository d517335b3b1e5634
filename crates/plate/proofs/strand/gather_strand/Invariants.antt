use Rattle.std.proofs.Common.{◌≡◌, ◌+◌, ◌*◌, get_or}
use Rattle.plate.specs.Layout.{copy_at}
use Rattle.plate.specs.Sweep.{Swept}
use Rattle.plate.proofs.strand.gather_strand.Given as goal

abbrev pub invariant-loop-i : goal.invariant-loop-i
invariant-loop-i g l =
    let n = l.fn.shape.planes in
    let side = l.fn.shape.side in
    Swept (n * (side * side) + (l.fn.row * side + l.fn.column) * n) l.i (λ j d x. x ≡ get_or l.initial.cells (copy_at side j l.fn.row l.fn.column) d)
    l.initial.cells l.cells
