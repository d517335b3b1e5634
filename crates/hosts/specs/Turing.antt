-- A Turing machine in the textbook sense, on a ring: a configuration is a tape, the place of the head and a state.
use Rattle.std.specs.Prelude.{◌≡◌, ℕ, ◌<◌, true, cond, ◌==◌, ◌≢◌}
use Rattle.toom.specs.declared.machine_cell.MachineCell.{MachineCell}
use Rattle.toom.specs.MachineCell.{head_of_cell}
use Rattle.hosts.specs.declared.entry.Motion.{Motion}
use Rattle.hosts.specs.declared.entry.Motion.TheVariants.{Stay, Left, Right}
use Rattle.hosts.specs.declared.machine.Machine.{Machine}
use Rattle.hosts.specs.Digit.{Digit, zero_digit, cell, head_of, symbol_of, entered, written}
use Rattle.hosts.specs.MachineRule.{entry_at, live, machine_rule}
use Rattle.hosts.specs.Ring.{left_of, right_of, stepped}

pub record Configuration : Type 0 where
  pub tape : ℕ → Digit
  pub place : ℕ
  pub state : Digit

-- The place after a motion, round the ring.
abbrev pub moved : ℕ → Motion → ℕ → ℕ
moved n Stay p = p
moved n Left p = left_of n p
moved n Right p = right_of n p

-- One step: look up state and symbol under the head, write the symbol there, enter the state, move the head.
abbrev pub turing_step : Machine → ℕ → Configuration → Configuration
turing_step m n t =
    let e = entry_at m t.state.value (t.tape t.place).value in
    record {
      tape = λ i. cond (i == t.place) (written e) (t.tape i);
      place = moved n e.motion t.place;
      state = entered e;
    }

-- The ring of cells of a configuration: the head's state at its place, no head elsewhere, and the tape's symbols.
abbrev pub ring_of : Configuration → ℕ → MachineCell
ring_of t i = cell (cond (i == t.place) t.state zero_digit) (t.tape i)

-- The configuration of a ring of cells with its head at place p.
abbrev pub configuration : (ℕ → MachineCell) → ℕ → Configuration
configuration cells p = record { tape = λ i. symbol_of (cells i); place = p; state = head_of (cells p) }

-- It is a Turing machine: in a ring of cells with one live head, at place p, and every other head 0, stepping every cell by the machine's rule
-- is one step of the machine. (If the head then stands on a symbol that the machine lacks, it has become foreign, and the machine halts.) This holds
-- on every ring of at least one cell: a lone cell is its own left and right, and then gets its own head back whichever way it moves.
abbrev pub StepsAsTuring : Type 0
StepsAsTuring =
    (m : Machine) (n p : ℕ) (cells : ℕ → MachineCell) → p < n → live m (cells p) ≡ true
    → ((i : ℕ) → i < n → (i ≢ p) → head_of_cell (cells i) ≡ 0)
    → (i : ℕ) → i < n → stepped (machine_rule m) n cells i ≡ ring_of (turing_step m n (configuration cells p)) i
