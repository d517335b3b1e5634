-- Whether the reply to a round is the one that is kept.
use Rattle.std.specs.Prelude.{◌≡◌, ℕ, ◌≤◌, ◌↔◌, Bool, IsTrue, List, length, take, Ok}
use Rattle.toom.specs.Bit.{bit_of_byte, byte_of_bit, equal_bits}
use Rattle.toom.specs.MachineCell.{byte_of_machine_cell, equal_machine_cells, machine_cell_of_byte}
use Rattle.hosts.specs.declared.elementary.Elementary.{Elementary}
use Rattle.hosts.specs.Elementary.{wolfram}
use Rattle.hosts.specs.MachineFile.{MachineIn, machine_questions}
use Rattle.hosts.specs.MachineRule.{machine_rule}
use Rattle.plate.specs.Members.{Members}
use Rattle.plate.specs.Plates.{members}
use Rattle.reports.specs.ReportCall.{report_bytes}
use Rattle.rounds.specs.declared.file_kind.FileKind.{FileKind}
use Rattle.rounds.specs.declared.file_kind.FileKind.TheVariants.{Bits, MachineCells, Other}
use Rattle.rounds.specs.Hosts.{RuleIn, rule_questions}
use Rattle.rounds.specs.Memory.{round_cells}
use Rattle.rounds.specs.PlayCall.{Entrant, entrant}
use Rattle.rounds.specs.ReplyCall.{Replies}
use Rattle.rounds.specs.RoundFile.{kind_in}

-- The round is replied to in memory and output that suffice for every round, and `agrees` says whether that reply is the kept one, byte for byte.
pub record ComparedAs {C H : Type 0} (k : Members C) (e : Entrant C H) (file kept : List ℕ) (agrees : Bool) : Type 0 where
  pub cells : List C
  pub cells' : List C
  pub out : List ℕ
  pub out' : List ℕ
  pub n : ℕ
  pub enough : round_cells ≤ length cells
  pub room : report_bytes ≤ length out
  pub replies : Replies k e file (Ok n) cells cells' out out'
  pub says : IsTrue agrees ↔ (take n out' ≡ kept)

-- A round of machine cells.
abbrev pub MachineCompared : (file kept : List ℕ) → (agrees : Bool) → Type 0
MachineCompared =
    ComparedAs (members equal_machine_cells byte_of_machine_cell machine_cell_of_byte) (entrant MachineCells machine_questions MachineIn machine_rule)

-- A round of bits.
abbrev pub BitsCompared : (file kept : List ℕ) → (agrees : Bool) → Type 0
BitsCompared =
    ComparedAs (members equal_bits byte_of_bit bit_of_byte) (entrant Bits rule_questions RuleIn (λ (host : Elementary). wolfram host.rule))

-- The play that a kind of file gets.
abbrev pub ComparedOf : FileKind → (file kept : List ℕ) → (agrees : Bool) → Type 0
ComparedOf MachineCells = MachineCompared
ComparedOf Bits = BitsCompared
ComparedOf (Other number) = BitsCompared

-- A file of machine cells is played as such, and every other one as bits.
abbrev pub Compared : (file kept : List ℕ) → (agrees : Bool) → Type 0
Compared file = ComparedOf (kind_in file) file
