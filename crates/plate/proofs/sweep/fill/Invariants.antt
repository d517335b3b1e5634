use Rattle.plate.specs.Sweep.{Swept, HostAnswers}
use Rattle.plate.proofs.sweep.fill.Given as goal

abbrev pub invariant-loop-j : goal.invariant-loop-j
invariant-loop-j g l =
    Swept l.to l.j (HostAnswers (g.H.Host.meaning l.host) l.a l.b l.c l.initial.cells) l.initial.cells l.cells
