-- Machine cells are equal where their bytes are; and 16 × head + symbol is a byte.
use Rattle.std.specs.Prelude.{◌≡◌, ℕ, ◌+◌, ◌*◌, ◌<◌}
use mathlib.Core.HLevel.{is_prop→PathP}
use Rattle.std.proofs.Common.{subst}
use Rattle.std.proofs.Math.Bridge.{le_prop}
use Rattle.std.proofs.Math.Nat.{mul_comm}
use Rattle.std.proofs.lemmas.Nat.{mul-add-lt}
use Rattle.toom.specs.declared.machine_cell.MachineCell.{MachineCell}

pub cells_equal : (x y : MachineCell) → x.byte ≡ y.byte → x ≡ y
cells_equal x y p = λ i. record { byte = p i; fits = is_prop→PathP (λ j. p j < 256) (λ j. le_prop) x.fits y.fits i }

pub parts_fit : (head symbol : ℕ) → head < 16 → symbol < 16 → 16 * head + symbol < 256
parts_fit head symbol h s = subst (λ n. n + symbol < 256) (mul_comm head 16) (mul-add-lt head 16 symbol 16 h s)
