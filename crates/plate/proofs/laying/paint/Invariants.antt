use Rattle.std.proofs.Common.{◌≡◌, ℕ, ◌<◌, get_or}
use Rattle.plate.proofs.laying.paint.Given as goal

abbrev pub invariant-loop-place : goal.invariant-loop-place
invariant-loop-place g l = (j : ℕ) (d : g.row.C.Denot) → j < l.place-index → get_or l.place-items j d ≡ l.cell
