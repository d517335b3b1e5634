use Rattle.std.proofs.Common.{◌-◌, ◌*◌, ◌≤◌}
use Rattle.plate.specs.Beside.{RepeatsLine}
use Rattle.plate.specs.Sweep.{Swept}
use Rattle.plate.proofs.resting.repeat_line.Given as goal

abbrev pub invariant-loop-done : goal.invariant-loop-done
invariant-loop-done g l =
    let n = l.fn.shape.planes in
    (1 ≤ l.done) × (l.done ≤ l.fn.count)
    × Swept l.fn.to (l.done * n) (RepeatsLine n l.fn.shape.side l.fn.cells) l.fn.cells l.cells

abbrev pub decreases-loop-done : goal.decreases-loop-done
decreases-loop-done g l = l.count - l.done
