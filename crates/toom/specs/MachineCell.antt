-- The machine cell as a kind: a cell's head and symbol, the cell of two such numbers, when two cells are the same, a cell's byte, which is
-- 16 * head + symbol, and the cell of a byte.
use Rattle.std.specs.Prelude.{◌≡◌, ℕ, ◌+◌, ◌*◌, ◌/◌, ◌%◌, ◌<◌, Bool, Some, Option, ◌==◌}
use Rattle.std.proofs.Common.{lit<}
use Rattle.std.proofs.Math.Nat.{mod-lt, div-lt_iff_lt-mul}
use Rattle.toom.specs.declared.machine_cell.MachineCell.{MachineCell}
use Rattle.toom.specs.MachineCells.{parts_fit}

abbrev pub head_of_cell : MachineCell → ℕ
head_of_cell x = x.byte / 16

abbrev pub symbol_of_cell : MachineCell → ℕ
symbol_of_cell x = x.byte % 16

-- Both are at most 15.
pub head_fits : (x : MachineCell) → head_of_cell x < 16
head_fits x = (div-lt_iff_lt-mul (lit< tt)).1 x.fits

pub symbol_fits : (x : MachineCell) → symbol_of_cell x < 16
symbol_fits x = mod-lt x.byte (lit< tt)

-- The cell of a head and a symbol.
abbrev pub cell_of_parts : (head symbol : ℕ) → head < 16 → symbol < 16 → MachineCell
cell_of_parts head symbol low_head low_symbol =
    record { byte = 16 * head + symbol; fits = parts_fit head symbol low_head low_symbol }

-- Every two numbers of at most 15 are the head and the symbol of a cell.
abbrev pub PartsMakeCells : Type 0
PartsMakeCells =
    (head symbol : ℕ) (low_head : head < 16) (low_symbol : symbol < 16)
    → (head_of_cell (cell_of_parts head symbol low_head low_symbol) ≡ head)
    × (symbol_of_cell (cell_of_parts head symbol low_head low_symbol) ≡ symbol)

abbrev pub SameParts : MachineCell → MachineCell → Type 0
SameParts x y = (head_of_cell x ≡ head_of_cell y) × (symbol_of_cell x ≡ symbol_of_cell y)

abbrev pub equal_machine_cells : MachineCell → MachineCell → Bool
equal_machine_cells x y = x.byte == y.byte

abbrev pub byte_of_machine_cell : MachineCell → ℕ
byte_of_machine_cell x = x.byte

-- Every byte is that of a machine cell.
abbrev pub machine_cell_of_byte : ℕ → Option MachineCell
machine_cell_of_byte b = Some record { byte = b % 256; fits = mod-lt b (lit< tt) }
