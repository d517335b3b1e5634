use Rattle.plate.proofs.WoundLooks.{MarksStay, RowsLooked}
use Rattle.plate.proofs.wounds.add_plane.Given as goal

abbrev pub invariant-loop-row : goal.invariant-loop-row
invariant-loop-row g l =
    MarksStay l.initial.wounds l.wounds × RowsLooked l.fn.plane l.fn.cell l.wounds l.initial.wounds.side l.row
