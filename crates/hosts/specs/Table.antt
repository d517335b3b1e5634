-- The table of a machine: its sizes, and what each slot may hold.
use Rattle.std.specs.Prelude.{◌≡◌, ℕ, ◌/◌, ◌%◌, ◌<◌, ◌≤◌, Bool, true, false, ◌&&◌, List, Option, None, IsSome, IsNone, nat_le, nat_lt, slice_index_or}
use Rattle.std.proofs.Common.{lit<}
use Rattle.std.specs.Option.{unwrap_or}
use Rattle.hosts.specs.declared.entry.Entry.{Entry}
use Rattle.hosts.specs.declared.entry.Motion.{Motion}
use Rattle.hosts.specs.declared.entry.Motion.TheVariants.{Stay, Left, Right}

-- A machine has 1 to 15 states, numbered from 1, and 2 to 16 symbols, numbered from 0.
abbrev pub Sizes : (states symbols : ℕ) → Type 0
Sizes states symbols = (1 ≤ states) × (states ≤ 15) × (2 ≤ symbols) × (symbols ≤ 16)

-- Whether the machine has this state and this symbol.
abbrev pub has_entry : (states symbols state symbol : ℕ) → Bool
has_entry states symbols state symbol = (nat_le 1 state && nat_le state states) && nat_lt symbol symbols

-- The entry enters a state and writes a symbol of the machine.
abbrev pub InRange : (states symbols : ℕ) → Entry → Type 0
InRange states symbols e = (1 ≤ e.next) × (e.next ≤ states) × (e.symbol < symbols)

-- No machine has it: state 0 is none. It stands where there is no entry.
abbrev pub blank : Entry
blank = record { next = 0; symbol = 0; motion = Stay; next_fits = lit< tt; symbol_fits = lit< tt }

-- How the file format numbers the motions.
abbrev pub motion_code : Motion → ℕ
motion_code Stay = 0
motion_code Left = 1
motion_code Right = 2

-- What slot i of the table holds.
abbrev pub slot : List (Option Entry) → ℕ → Option Entry
slot table i = slice_index_or table i None

-- Slot i is of state i / 16 and symbol i % 16. If the machine has these it holds an entry in range, else it is empty.
abbrev pub Used : (states symbols : ℕ) → List (Option Entry) → ℕ → Type 0
Used states symbols table i =
    has_entry states symbols (i / 16) (i % 16) ≡ true → (IsSome (slot table i)) × InRange states symbols (unwrap_or (slot table i) blank)

abbrev pub Unused : (states symbols : ℕ) → List (Option Entry) → ℕ → Type 0
Unused states symbols table i = has_entry states symbols (i / 16) (i % 16) ≡ false → IsNone (slot table i)
