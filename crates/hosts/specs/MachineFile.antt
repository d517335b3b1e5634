-- The machine file: a byte with the two sizes, Q its first digit and S - 1 its second; then an entry of two bytes for each state and symbol. An entry
-- has four bits of next state, four of symbol, two of move and six that have to be 0. The entries of a state stand together, by their symbols.
use Rattle.std.specs.Prelude.{◌≡◌, ℕ, zero, suc, ◌+◌, ◌-◌, ◌*◌, ◌/◌, ◌%◌, ◌<◌, true, cond, ◌&&◌, List, map, length, Some, None, codes, Option, ◌==◌, nat_le, nat_lt, slice_index}
use Rattle.std.proofs.Common.{lit<}
use Rattle.std.proofs.Math.Nat.{mod-lt}
use Rattle.std.specs.List.{range_with_len}
use Rattle.std.specs.Option.{option_or}
use Rattle.hosts.specs.declared.entry.Entry.{Entry}
use Rattle.hosts.specs.declared.entry.Motion.{Motion}
use Rattle.hosts.specs.declared.entry.Motion.TheVariants.{Stay, Left, Right}
use Rattle.hosts.specs.declared.machine.Machine.{Machine}
use Rattle.hosts.specs.MachineRule.{entry_at}
use Rattle.hosts.specs.Refusal.{Refusal, ask, ask_each}
use Rattle.hosts.specs.Table.{has_entry, motion_code}

-- The numbers of states and symbols that the first byte gives.
abbrev pub states_in : List ℕ → ℕ
states_in file = slice_index file 0 / 16

abbrev pub symbols_in : List ℕ → ℕ
symbols_in file = slice_index file 0 % 16 + 1

-- The two bytes of entry k, and what they hold.
abbrev pub high_byte : List ℕ → ℕ → ℕ
high_byte file k = slice_index file (1 + 2 * k)

abbrev pub low_byte : List ℕ → ℕ → ℕ
low_byte file k = slice_index file (2 + 2 * k)

abbrev pub motion_from : ℕ → Motion
motion_from zero = Stay
motion_from (suc zero) = Left
motion_from (suc (suc n)) = Right

abbrev pub entry_in : List ℕ → ℕ → Entry
entry_in file k = record {
  next = high_byte file k / 16 % 16;
  symbol = high_byte file k % 16;
  motion = motion_from (low_byte file k / 64);
  next_fits = mod-lt (high_byte file k / 16) (lit< tt);
  symbol_fits = mod-lt (high_byte file k) (lit< tt);
}

abbrev pub host_refusal : (number place : ℕ) → Refusal
host_refusal number place = record { number = number; word = codes "host"; place = place }

-- The questions about entry k.
abbrev pub entry_questions : List ℕ → ℕ → Option Refusal
entry_questions file k =
    ask (nat_le 1 (high_byte file k / 16) && nat_le (high_byte file k / 16) (states_in file)) (host_refusal 19 k)
    (ask (nat_lt (high_byte file k % 16) (symbols_in file)) (host_refusal 20 k)
    (ask (nat_lt (low_byte file k / 64) 3) (host_refusal 21 k)
    (ask (low_byte file k % 64 == 0) (host_refusal 22 k) None)))

-- The questions about the first byte and the length.
abbrev pub header_questions : List ℕ → Option Refusal
header_questions file =
    ask (nat_lt 0 (length file) && (nat_le 1 (states_in file) && nat_le 2 (symbols_in file))) (host_refusal 17 0)
    (ask (length file == 1 + 2 * (states_in file * symbols_in file)) (host_refusal 18 0) None)

-- All questions of a file, in order.
abbrev pub machine_questions : List ℕ → Option Refusal
machine_questions file = option_or (header_questions file) (ask_each (entry_questions file) (states_in file * symbols_in file))

-- The machine of a file in order: the entry of state q and symbol s is entry (q - 1) × S + s of the file.
pub record MachineIn (file : List ℕ) (m : Machine) : Type 0 where
  pub states : m.states ≡ states_in file
  pub symbols : m.symbols ≡ symbols_in file
  pub entries : (q s : ℕ) → has_entry m.states m.symbols q s ≡ true → entry_at m q s ≡ entry_in file ((q - 1) * m.symbols + s)

-- What slot i of the table holds then.
abbrev pub slot_in : List ℕ → ℕ → Option Entry
slot_in file i =
    cond (has_entry (states_in file) (symbols_in file) (i / 16) (i % 16)) (Some (entry_in file ((i / 16 - 1) * symbols_in file + i % 16))) None

-- The file of a machine, byte by byte.
abbrev pub entry_byte : Entry → ℕ → ℕ
entry_byte e zero = 16 * e.next + e.symbol
entry_byte e (suc n) = 64 * motion_code e.motion

abbrev pub file_byte : Machine → ℕ → ℕ
file_byte m zero = 16 * m.states + (m.symbols - 1)
file_byte m (suc j) = entry_byte (entry_at m (j / 2 / m.symbols + 1) (j / 2 % m.symbols)) (j % 2)

abbrev pub file_of : Machine → List ℕ
file_of m = map (file_byte m) (range_with_len 0 (1 + 2 * (m.states * m.symbols)))

abbrev pub Bytes : List ℕ → Type 0
Bytes file = (i : ℕ) → slice_index file i < 256

-- A machine's file is in order and gives that machine; and a file in order that gives a machine is that machine's file. So files in order that
-- give the same machine are the same bytes.
pub record OneFileEach : Type 0 where
  pub written : (m : Machine) → (machine_questions (file_of m) ≡ None) × MachineIn (file_of m) m
  pub read : (file : List ℕ) (m : Machine) → Bytes file → machine_questions file ≡ None → MachineIn file m → file ≡ file_of m
  pub same : (file other : List ℕ) (m : Machine) → Bytes file → Bytes other → machine_questions file ≡ None
      → machine_questions other ≡ None → MachineIn file m → MachineIn other m → file ≡ other

-- A machine is its numbers of states and symbols and its entries: a file gives at most one machine.
abbrev pub OneMachineEach : Type 0
OneMachineEach = (file : List ℕ) (m n : Machine) → MachineIn file m → MachineIn file n → m ≡ n
