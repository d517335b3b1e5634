-- What a cell does in a step, by its slot of the table.
use Rattle.std.specs.Prelude.{◌≡◌, ℕ, ◌/◌, ◌%◌, cond, List, Option, ◌==◌, slice_index_or}
use Rattle.std.proofs.Common.{lit<}
use Rattle.std.proofs.Math.Nat.{mod-lt}
use Rattle.hosts.specs.declared.entry.Entry.{Entry}
use Rattle.hosts.specs.declared.entry.Motion.TheVariants.{Left, Right}
use Rattle.hosts.specs.declared.machine.deed.Deed.{Deed}
use Rattle.hosts.specs.Digit.{Digit}
use Rattle.hosts.specs.Sent.{sent, staying, writing}
use Rattle.hosts.specs.Table.{slot}

-- What a cell with this head, symbol and entry does.
abbrev pub deed_of : (head symbol : Digit) → Option Entry → Deed
deed_of head symbol e = record {
  symbol = (writing symbol e).value;
  stays = (staying head e).value;
  goes_left = (sent Left e).value;
  goes_right = (sent Right e).value;
  symbol_fits = (writing symbol e).fits;
  stays_fits = (staying head e).fits;
  left_fits = (sent Left e).fits;
  right_fits = (sent Right e).fits;
}

-- The lowest hexadecimal digit of a number.
abbrev pub low_digit : ℕ → Digit
low_digit n = record { value = n % 16; fits = mod-lt n (lit< tt) }

-- The deed of slot i, whose head is i / 16 and whose symbol is i % 16.
abbrev pub deed_at : List (Option Entry) → ℕ → Deed
deed_at table i = deed_of (low_digit (i / 16)) (low_digit i) (slot table i)

-- Slot i of the second table has the deed of slot i of the first.
abbrev pub Done : List (Option Entry) → List Deed → ℕ → Type 0
Done table deeds i = slice_index_or deeds i (deed_at table i) ≡ deed_at table i

-- The first of three heads that is one, or 0.
abbrev pub first_of : (centre left right : ℕ) → ℕ
first_of centre left right = cond (centre == 0) (cond (left == 0) right left) centre
