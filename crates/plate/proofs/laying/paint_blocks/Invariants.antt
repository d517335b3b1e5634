use Rattle.std.proofs.Common.{◌≡◌, ◌+◌, ◌*◌}
use Rattle.plate.specs.Painted.{BlocksPainted}
use Rattle.plate.proofs.laying.paint_blocks.Given as goal

abbrev pub invariant-loop-byte : goal.invariant-loop-byte
invariant-loop-byte g l =
    (l.at ≡ l.from + l.byte-index * l.w) × BlocksPainted g.C.Kind.cell_of l.from l.byte-index l.w l.tape l.initial.cells l.cells
