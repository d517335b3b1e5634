-- The round file: 72 bits of header, then host, tape and script.
use Rattle.std.specs.Prelude.{◌≡◌, ℕ, ◌+◌, ◌*◌, ◌/◌, ◌%◌, ◌^◌, ◌&&◌, List, length, take, drop, None, codes, Option, ◌==◌, nat_le}
use Rattle.hosts.specs.Refusal.{Refusal, ask}
use Rattle.runs.specs.Bytes.{number_at}
use Rattle.rounds.specs.declared.fault.RoundFault.{RoundFault}
use Rattle.rounds.specs.declared.fault.RoundFault.TheVariants as faults
use Rattle.rounds.specs.declared.file_kind.FileKind.{FileKind}
use Rattle.rounds.specs.declared.round.Header.{Header}
use Rattle.rounds.specs.declared.round.Round.{Round}
use Rattle.rounds.specs.FileKind.{file_kind, same_kind}

-- Fields from the highest bit: kind 2, P - 1 in 6, n - 1 in 12, beats 20, the lengths of host and script 16 each.
abbrev pub header : List ℕ → ℕ
header file = number_at file 0 9

abbrev pub kind_in : List ℕ → FileKind
kind_in file = file_kind (header file / 2 ^ 70)

abbrev pub side_in : List ℕ → ℕ
side_in file = header file / 2 ^ 64 % 2 ^ 6 + 1

abbrev pub planes_in : List ℕ → ℕ
planes_in file = header file / 2 ^ 52 % 2 ^ 12 + 1

abbrev pub beats_in : List ℕ → ℕ
beats_in file = header file / 2 ^ 32 % 2 ^ 20

abbrev pub host_length : List ℕ → ℕ
host_length file = header file / 2 ^ 16 % 2 ^ 16

abbrev pub script_length : List ℕ → ℕ
script_length file = header file % 2 ^ 16

pub record HeaderIn (file : List ℕ) (h : Header) : Type 0 where
  pub kind : h.kind ≡ kind_in file
  pub side : h.side ≡ side_in file
  pub planes : h.planes ≡ planes_in file
  pub beats : h.beats ≡ beats_in file
  pub host : h.host ≡ host_length file
  pub script : h.script ≡ script_length file

-- The bytes of the header, and the most bytes of a round file and copies of a round.
abbrev pub header_bytes : ℕ
header_bytes = 9

abbrev pub max_round : ℕ
max_round = 65535

abbrev pub max_copies : ℕ
max_copies = 16384

-- What follows the header: the host, a byte of tape for each plane, the script.
abbrev pub host_in : List ℕ → List ℕ
host_in file = take (host_length file) (drop header_bytes file)

abbrev pub tape_in : List ℕ → List ℕ
tape_in file = take (planes_in file) (drop (header_bytes + host_length file) file)

abbrev pub script_in : List ℕ → List ℕ
script_in file = take (script_length file) (drop (header_bytes + host_length file + planes_in file) file)

abbrev pub round_refusal : (number : ℕ) → Refusal
round_refusal number = record { number = number; word = codes "round"; place = 0 }

-- The questions of a file for this kind.
abbrev pub round_questions : (kind : FileKind) → List ℕ → Option Refusal
round_questions kind file =
    ask (nat_le header_bytes (length file)) (round_refusal 23)
    (ask (same_kind (kind_in file) kind) (round_refusal 24)
    (ask (length file == header_bytes + host_length file + planes_in file + script_length file && nat_le (length file) max_round) (round_refusal 25)
    (ask (nat_le (planes_in file * (side_in file * side_in file)) max_copies) (round_refusal 26) None)))

abbrev pub round_fault : RoundFault → Refusal
round_fault faults.Header = round_refusal 23
round_fault faults.Kind = round_refusal 24
round_fault faults.Length = round_refusal 25
round_fault faults.Copies = round_refusal 26

-- The round of a file.
pub record RoundIn (file : List ℕ) (r : Round) : Type 0 where
  pub planes : r.planes ≡ planes_in file
  pub side : r.side ≡ side_in file
  pub beats : r.beats ≡ beats_in file
  pub host : r.host.now ≡ host_in file
  pub tape : r.tape.now ≡ tape_in file
  pub script : r.script.now ≡ script_in file
