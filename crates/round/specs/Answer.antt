-- What the program answers to a round.
use Rattle.std.specs.Prelude.{◌≡◌, ℕ, List, take, replicate, Some, Ok, Option}
use Rattle.std.specs.Io.KnownBytes.{Appends}
use Rattle.toom.specs.Bit.{bit_of_byte, byte_of_bit, equal_bits}
use Rattle.toom.specs.MachineCell.{byte_of_machine_cell, equal_machine_cells, machine_cell_of_byte}
use Rattle.hosts.specs.declared.elementary.Elementary.{Elementary}
use Rattle.hosts.specs.Elementary.{wolfram}
use Rattle.hosts.specs.MachineFile.{MachineIn, machine_questions}
use Rattle.hosts.specs.MachineRule.{machine_rule}
use Rattle.plate.specs.Members.{Members}
use Rattle.plate.specs.Plates.{members}
use Rattle.reports.specs.ReportCall.{report_bytes}
use Rattle.rounds.specs.declared.file_kind.FileKind.{FileKind}
use Rattle.rounds.specs.declared.file_kind.FileKind.TheVariants.{Bits, MachineCells, Other}
use Rattle.rounds.specs.Hosts.{RuleIn, rule_questions}
use Rattle.rounds.specs.Memory.{round_cells}
use Rattle.rounds.specs.PlayCall.{Entrant, entrant}
use Rattle.rounds.specs.ReplyCall.{Replies}
use Rattle.rounds.specs.RoundFile.{kind_in}

-- The reply to the round, n bytes long, over 40,960 cells, which suffice for every round. They are all the cell that the byte 00 names.
pub record Replied {C H : Type 0} (k : Members C) (e : Entrant C H) (file : List ℕ) (n : ℕ) (out out' : List ℕ) : Type 0 where
  pub blank : C
  pub cells' : List C
  pub named : k.named 0 ≡ Some blank
  pub replies : Replies k e file (Ok n) (replicate round_cells blank) cells' out out'

-- Rounds of machine cells.
abbrev pub MachineReplied : (file : List ℕ) → (n : ℕ) → (out out' : List ℕ) → Type 0
MachineReplied =
    Replied (members equal_machine_cells byte_of_machine_cell machine_cell_of_byte) (entrant MachineCells machine_questions MachineIn machine_rule)

-- Rounds of bits.
abbrev pub BitsReplied : (file : List ℕ) → (n : ℕ) → (out out' : List ℕ) → Type 0
BitsReplied =
    Replied (members equal_bits byte_of_bit bit_of_byte) (entrant Bits rule_questions RuleIn (λ (host : Elementary). wolfram host.rule))

abbrev pub RepliedTo : FileKind → (file : List ℕ) → (n : ℕ) → (out out' : List ℕ) → Type 0
RepliedTo MachineCells = MachineReplied
RepliedTo Bits = BitsReplied
RepliedTo (Other number) = BitsReplied

-- A file of machine cells gets their reply, every other that of bits.
abbrev pub Answered : (file : List ℕ) → (n : ℕ) → (out out' : List ℕ) → Type 0
Answered file = RepliedTo (kind_in file) file

-- The text of a reply: what it writes at the front of an output of 12,396 zeros.
pub record IsReply (file text : List ℕ) : Type 0 where
  pub n : ℕ
  pub out : List ℕ
  pub answered : Answered file n (replicate report_bytes 0) out
  pub text_of : text ≡ take n out

-- A file has one reply.
abbrev pub OneReplyEach : Type 0
OneReplyEach = (file text other : List ℕ) → IsReply file text → IsReply file other → text ≡ other

-- The reply to the file is put after what was written before.
abbrev pub AppendsReply : (file : List ℕ) → (before after : Option (List ℕ)) → Type 0
AppendsReply file before after = (text : List ℕ) × IsReply file text × Appends before after text
