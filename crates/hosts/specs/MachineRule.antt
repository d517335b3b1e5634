-- The rule of a machine on three cells.
use Rattle.std.specs.Prelude.{ℕ, ◌+◌, ◌*◌, Bool, cond, not, ◌&&◌, Some, None, Option, ◌==◌}
use Rattle.std.specs.Option.{option_or, unwrap_or}
use Rattle.toom.specs.declared.machine_cell.MachineCell.{MachineCell}
use Rattle.toom.specs.MachineCell.{head_of_cell, symbol_of_cell}
use Rattle.hosts.specs.declared.entry.Entry.{Entry}
use Rattle.hosts.specs.declared.entry.Motion.{Motion}
use Rattle.hosts.specs.declared.entry.Motion.TheVariants.{Stay, Left, Right}
use Rattle.hosts.specs.declared.machine.Machine.{Machine}
use Rattle.hosts.specs.Digit.{Digit, zero_digit, cell, symbol_of, entered, written}
use Rattle.hosts.specs.Table.{has_entry, blank, slot, motion_code}

-- The entry of a state and a symbol; `blank` where the machine has none.
abbrev pub entry_at : Machine → (state symbol : ℕ) → Entry
entry_at m state symbol = unwrap_or (slot m.table (16 * state + symbol)) blank

-- A live cell is one that has an entry: its head is a state of this machine, and its symbol one of the machine's.
abbrev pub live : Machine → MachineCell → Bool
live m x = has_entry m.states m.symbols (head_of_cell x) (symbol_of_cell x)

-- A foreign cell has a head, and no entry.
abbrev pub foreign : Machine → MachineCell → Bool
foreign m x = not (head_of_cell x == 0) && not (live m x)

-- The entry of a live cell, none of another.
abbrev pub entry_of : Machine → MachineCell → Option Entry
entry_of m x = cond (live m x) (Some (entry_at m (head_of_cell x) (symbol_of_cell x))) None

-- The entry, if it moves the head so.
abbrev pub moving : Motion → Option Entry → Option Entry
moving motion None = None
moving motion (Some e) = cond (motion_code e.motion == motion_code motion) (Some e) None

-- The head that arrives. It has three ways, and the first that is open counts: to stay in the centre, to come from the left, to come from the right.
abbrev pub arriving : (left centre right : Option Entry) → Option Entry
arriving left centre right = option_or (moving Stay centre) (option_or (moving Right left) (moving Left right))

abbrev pub new_head : Option Entry → Digit
new_head None = zero_digit
new_head (Some e) = entered e

abbrev pub new_symbol : MachineCell → Option Entry → Digit
new_symbol x None = symbol_of x
new_symbol x (Some e) = written e

-- A foreign centre stays. Any other gets the head that arrives, or none, and the symbol that its entry writes, or its own.
abbrev pub machine_rule : Machine → (left centre right : MachineCell) → MachineCell
machine_rule m left centre right =
    cond (foreign m centre) centre
    (cell (new_head (arriving (entry_of m left) (entry_of m centre) (entry_of m right))) (new_symbol centre (entry_of m centre)))
