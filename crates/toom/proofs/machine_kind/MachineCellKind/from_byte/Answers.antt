use Rattle.std.proofs.Common.{Some, ap, arith}
use Rattle.toom.specs.MachineCells.{cells_equal}
use Rattle.toom.proofs.machine_kind.MachineCellKind.from_byte.Goals as goal

pub returns : goal.returns
returns c = ap Some (cells_equal _ _ (omega arith))
