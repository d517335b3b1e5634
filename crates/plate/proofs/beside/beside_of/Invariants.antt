use Rattle.std.proofs.Common.{◌≡◌, ℕ, ◌<◌, true, false}
use Rattle.toom.specs.Shadow.{marks}
use Rattle.toom.specs.Torus.{Everywhere}
use Rattle.plate.specs.Beside.{ReadsEither}
use Rattle.plate.proofs.WoundStretches.{Passed}
use Rattle.plate.proofs.beside.beside_of.Given as goal

abbrev pub invariant-loop-stretch : goal.invariant-loop-stretch
invariant-loop-stretch l =
    let w = l.fn.wounds in
    (l.stretch-iterator.shadow.now ≡ w) × (l.beside.side ≡ w.side)
    × Everywhere w.side (λ r c. marks l.beside r c ≡ true → marks w r c ≡ false)
    × ((r c : ℕ) → r < w.side → c < w.side → Passed w l.stretch-iterator r c
    → ReadsEither w.side (marks w) (marks l.beside) r c)
