use Rattle.std.proofs.Common.{◌≤◌}
use Rattle.plate.proofs.WoundLooks.{MarksStay, CellsLooked}
use Rattle.plate.proofs.wounds.add_row.Given as goal

abbrev pub invariant-loop-column : goal.invariant-loop-column
invariant-loop-column g l =
    MarksStay l.initial.wounds l.wounds × (l.new ≤ l.column) × CellsLooked l.fn.cells l.fn.cell l.wounds l.fn.row l.column
