-- Run: its questions, and the strikes and beats that it stands for.
use Rattle.std.specs.Prelude.{ℕ, zero, suc, ◌+◌, ◌%◌, ◌&&◌, List, ◌∷◌, ◌++◌, map, length, Some, None, codes, filter, Option, ◌==◌, nat_eq, nat_le}
use Rattle.std.specs.List.{range_with_len}
use Rattle.std.specs.Option.{option_map}
use Rattle.hosts.specs.Refusal.{Refusal, ask, ask_each}
use Rattle.plate.specs.declared.laid.Laid.{Laid}
use Rattle.plate.specs.BeatCall.{max_age}
use Rattle.plate.specs.Board.{Board, standing, side_of}
use Rattle.plate.specs.History.{Call, Strike, Beat}
use Rattle.plate.specs.StrikeCall.{place_questions}
use Rattle.runs.specs.declared.record.Record.{Record}
use Rattle.runs.specs.Script.{records_in, record_in}

abbrev pub run_refusal : (number place : ℕ) → Refusal
run_refusal number place = record { number = number; word = codes "run"; place = place }

-- The same refusal, at this place.
abbrev pub at_place : (place : ℕ) → Refusal → Refusal
at_place place r = record { number = r.number; word = r.word; place = place }

-- The questions of the record at index k; the record just before it has the number `before`. What its strike asks has the strike's numbers and word.
abbrev pub record_asked : {C : Type 0} → (named : ℕ → Option C) → (n side beats before k : ℕ) → Record → Option Refusal
record_asked named n side beats before k r =
    ask (r.spare == 0) (run_refusal 12 k)
    (ask (nat_le r.number beats) (run_refusal 13 k)
    (ask (nat_le before r.number) (run_refusal 14 k)
    (option_map (at_place k) (place_questions named n side r.strike.plane r.strike.row r.strike.column r.strike.byte))))

-- The first record has none before it, and no number is below 0.
abbrev pub number_before : List ℕ → ℕ → ℕ
number_before script zero = 0
number_before script (suc k) = (record_in script k).number

abbrev pub record_questions : {C : Type 0} → (named : ℕ → Option C) → (n side beats : ℕ) → List ℕ → ℕ → Option Refusal
record_questions named n side beats script k = record_asked named n side beats (number_before script k) k (record_in script k)

-- A script has at most 8,191 records: its length has 16 bits in a round file.
abbrev pub max_script : ℕ
max_script = 65528

abbrev pub script_questions : {C : Type 0} → (named : ℕ → Option C) → (n side beats : ℕ) → List ℕ → Option Refusal
script_questions named n side beats script =
    ask (length script % 8 == 0 && nat_le (length script) max_script) (run_refusal 11 0)
    (ask_each (record_questions named n side beats script) (records_in script))

-- Of a plate of n planes of this side, at this age.
abbrev pub shape_questions : {C : Type 0} → (named : ℕ → Option C) → (n side age beats : ℕ) → List ℕ → Option Refusal
shape_questions named n side age beats script =
    ask (nat_le (age + beats) max_age) (run_refusal 10 0) (script_questions named n side beats script)

abbrev pub run_questions_of : {C : Type 0} → (named : ℕ → Option C) → Option Laid → (beats : ℕ) → List ℕ → Option Refusal
run_questions_of named None beats script = Some (run_refusal 6 0)
run_questions_of named (Some l) beats script = shape_questions named l.planes (side_of l) l.age beats script

abbrev pub run_questions : {C : Type 0} → (named : ℕ → Option C) → Board C → (beats : ℕ) → List ℕ → Option Refusal
run_questions named b = run_questions_of named (standing b)

-- The strike of a record.
abbrev pub strike_of : {C : Type 0} → Record → Call C
strike_of r = Strike r.strike.plane r.strike.row r.strike.column r.strike.byte

-- The strikes of number b among the first m records, in script order.
abbrev pub strikes_numbered : {C : Type 0} → List ℕ → (m b : ℕ) → List (Call C)
strikes_numbered script m b = map strike_of (filter (λ r. nat_eq r.number b) (map (record_in script) (range_with_len 0 m)))

-- The first m records over the first b beats: the strikes of number 0; then each beat, and after it the strikes of its number.
abbrev pub calls_upto : {C : Type 0} → (host : C → C → C → C) → List ℕ → (m b : ℕ) → List (Call C)
calls_upto host script m zero = strikes_numbered script m 0
calls_upto host script m (suc b) = calls_upto host script m b ++ (Beat host ∷ strikes_numbered script m (suc b))

-- The strikes and beats of a run, in order.
abbrev pub calls_of_run : {C : Type 0} → (host : C → C → C → C) → List ℕ → (beats : ℕ) → List (Call C)
calls_of_run host script beats = calls_upto host script (records_in script) beats
