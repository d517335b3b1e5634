-- A script: records of 64 bits, one after another.
use Rattle.std.specs.Prelude.{◌≡◌, ℕ, ◌+◌, ◌*◌, ◌/◌, ◌%◌, ◌^◌, ◌<◌, ◌≤◌, List, length, Option, MatchOption}
use Rattle.runs.specs.declared.record.Record.{Record}
use Rattle.runs.specs.declared.script.Script.{Script}
use Rattle.runs.specs.Bytes.{number_at}

-- The fields of 64 bits, from the highest: 20 of number, 12 of plane, 6 of row, 6 of column, 8 of byte, and 12 that have to be zero.
abbrev pub record_of : (word : ℕ) → Record
record_of word = record {
  number = word / 2 ^ 44;
  strike = record {
    plane = word / 2 ^ 32 % 2 ^ 12;
    row = word / 2 ^ 26 % 2 ^ 6;
    column = word / 2 ^ 20 % 2 ^ 6;
    byte = word / 2 ^ 12 % 2 ^ 8;
  };
  spare = word % 2 ^ 12;
}

-- How many whole records the script has, and record k, counted from 0.
abbrev pub records_in : List ℕ → ℕ
records_in script = length script / 8

abbrev pub record_in : List ℕ → ℕ → Record
record_in script k = record_of (number_at script (8 * k) 8)

-- What the reader answers, and where it stands then: the next record, and none after the last.
abbrev pub Yields : (before : Script) → Option Record → (after : Script) → Type 0
Yields before r after =
    MatchOption r ((records_in before.bytes.now ≤ before.index) × (after ≡ before))
    (λ x. (before.index < records_in before.bytes.now) × (x ≡ record_in before.bytes.now before.index)
    × (after.bytes ≡ before.bytes) × (after.index ≡ before.index + 1))
