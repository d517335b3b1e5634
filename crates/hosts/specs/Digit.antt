-- A digit: a number from 0 to 15, as a machine cell has for its head and for its symbol.
use Rattle.std.proofs.Common.{lit<}
use Rattle.std.specs.Prelude.{ℕ, ◌<◌}
use Rattle.toom.specs.declared.machine_cell.MachineCell.{MachineCell}
use Rattle.toom.specs.MachineCell.{cell_of_parts, head_fits, head_of_cell, symbol_fits, symbol_of_cell}
use Rattle.hosts.specs.declared.entry.Entry.{Entry}

pub record Digit : Type 0 where
  pub value : ℕ
  pub fits : value < 16

abbrev pub zero_digit : Digit
zero_digit = record { value = 0; fits = lit< tt }

-- The machine cell of a head and a symbol, and back.
abbrev pub cell : (head symbol : Digit) → MachineCell
cell head symbol = cell_of_parts head.value symbol.value head.fits symbol.fits

abbrev pub head_of : MachineCell → Digit
head_of x = record { value = head_of_cell x; fits = head_fits x }

abbrev pub symbol_of : MachineCell → Digit
symbol_of x = record { value = symbol_of_cell x; fits = symbol_fits x }

-- What an entry enters, and what it writes.
abbrev pub entered : Entry → Digit
entered e = record { value = e.next; fits = e.next_fits }

abbrev pub written : Entry → Digit
written e = record { value = e.symbol; fits = e.symbol_fits }
