use Rattle.std.proofs.Common.{◌≡◌}
use Rattle.plate.specs.Plates.{board, members}
use Rattle.runs.proofs.Playing.{Underway}
use Rattle.runs.proofs.run.play.Given as goal

abbrev pub invariant-loop-index : goal.invariant-loop-index
invariant-loop-index g l = record {
  underway : Underway (members g.C.PartialEq.eq g.C.Kind.byte_of g.C.Kind.cell_of) (g.H.Host.meaning l.host) l.script l.beats
      (board l.initial.plate) l.index-iterator l.done (board l.plate);
  same : l.plate.cells.ghost_name ≡ l.initial.plate.cells.ghost_name;
}
