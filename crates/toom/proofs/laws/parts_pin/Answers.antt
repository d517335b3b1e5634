use Rattle.std.proofs.Common.{arith}
use Rattle.toom.specs.MachineCells.{cells_equal}
use Rattle.toom.proofs.laws.parts_pin.Goals as goal

pub returns : goal.returns
returns c = record {
  pin = λ x y same. cells_equal x y (omega arith);
  make = λ head symbol low_head low_symbol. (omega arith, omega arith);
}
