use Rattle.std.proofs.Common.{◌≡◌, ℕ, ◌<◌, true, get_or}
use Rattle.plate.proofs.wounds.are_all.Given as goal

abbrev pub invariant-loop-x : goal.invariant-loop-x
invariant-loop-x g l = l.same ≡ true → (k : ℕ) (d : g.row.C.Denot) → k < l.x-index → get_or l.cells k d ≡ l.cell
