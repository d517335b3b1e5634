use Rattle.std.proofs.Common.{◌≡◌, ◌+◌, ◌<◌, get_or}
use Rattle.hosts.specs.Ring.{left_of}
use Rattle.plate.specs.Sweep.{Steps, Swept}
use Rattle.plate.proofs.sweep.step_short.Given as goal

abbrev pub invariant-loop-i : goal.invariant-loop-i
invariant-loop-i g l =
    Swept l.fn.to l.i (Steps (g.H.Host.meaning l.fn.host) l.fn.from l.fn.n l.initial.cells) l.initial.cells l.cells
    × ((d : g.row.C.Denot) → l.left ≡ get_or l.initial.cells (l.fn.from + left_of l.fn.n l.i) d)
    × (l.i < l.fn.n → (d : g.row.C.Denot) → l.own ≡ get_or l.initial.cells (l.fn.from + l.i) d)
