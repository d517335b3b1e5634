-- The cells, rings and shadows of the examples, from their bytes and places.
use Rattle.std.specs.Prelude.{ℕ, zero, suc, Bool, List, [], ◌∷◌, map, length, slice_index}
use Rattle.std.specs.List.{range_with_len}
use Rattle.std.specs.Option.{unwrap_or}
use Rattle.toom.specs.declared.bit.Bit.{Bit}
use Rattle.toom.specs.declared.bit.Bit.TheVariants.{Zero}
use Rattle.toom.specs.declared.machine_cell.MachineCell.{MachineCell}
use Rattle.toom.specs.Bit.{byte_of_bit, bit_of_byte}
use Rattle.toom.specs.MachineCell.{byte_of_machine_cell, machine_cell_of_byte}
use Rattle.toom.specs.Shadow.{no_marks, with_mark}
use Rattle.toom.specs.Torus.{Plane}
use Rattle.hosts.specs.Digit.{zero_digit, cell}
use Rattle.hosts.specs.Ring.{stepped}

-- The bit that the byte 00 or 01 names. (Other bytes name none; the examples have none of them.)
abbrev pub bit : ℕ → Bit
bit b = unwrap_or (bit_of_byte b) Zero

-- The machine cell that a byte names. (Every byte names one.)
abbrev pub machine_cell : ℕ → MachineCell
machine_cell b = unwrap_or (machine_cell_of_byte b) (cell zero_digit zero_digit)

-- The ring after j steps of the host.
abbrev pub stepped_by : {C : Type 0} → ℕ → (C → C → C → C) → ℕ → (ℕ → C) → (ℕ → C)
stepped_by zero host n cells = cells
stepped_by (suc j) host n cells = stepped host n (stepped_by j host n cells)

-- A ring has a place for each of the bytes, which name its cells, place 0 first. Its bytes after j steps of the host.
abbrev pub bytes_after : {C : Type 0} → (named : ℕ → C) → (byte : C → ℕ) → (C → C → C → C) → (j : ℕ) → List ℕ → List ℕ
bytes_after named byte host j bytes =
    map (λ i. byte (stepped_by j host (length bytes) (λ k. named (slice_index bytes k)) i)) (range_with_len 0 (length bytes))

-- The same of bits, and of machine cells.
abbrev pub bits_after : (Bit → Bit → Bit → Bit) → (j : ℕ) → List ℕ → List ℕ
bits_after = bytes_after bit byte_of_bit

abbrev pub machine_cells_after : (MachineCell → MachineCell → MachineCell → MachineCell) → (j : ℕ) → List ℕ → List ℕ
machine_cells_after = bytes_after machine_cell byte_of_machine_cell

-- The shadow with these places marked, a row and a column each, and no other.
abbrev pub marked : List (ℕ × ℕ) → Plane Bool
marked [] = no_marks
marked (p ∷ ps) = with_mark (marked ps) p.0 p.1
