use Rattle.std.proofs.Common.{ℕ, ◌<◌, ◌≤◌}
use Rattle.toom.specs.Shadow.{marks}
use Rattle.plate.specs.Beside.{ReadsEither, SoundAdded}
use Rattle.plate.proofs.beside.add_beside.Given as goal

abbrev pub invariant-loop-column : goal.invariant-loop-column
invariant-loop-column l =
    SoundAdded (marks l.fn.wounds) l.initial.beside l.beside
    × ((c : ℕ) → l.fn.stretch.column ≤ c → c < l.column
    → ReadsEither l.fn.wounds.side (marks l.fn.wounds) (marks l.beside) l.fn.stretch.row c)
